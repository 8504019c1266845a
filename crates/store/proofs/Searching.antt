-- A binary search among the entries in use.
use Rattle.std.proofs.Common.{◌≡◌, ℕ, ◌<◌, ◌≤◌, List, length, take, pos, Result, Ok, Err, MatchResult, sym, ap, ◌∙◌, arith}
use Rattle.std.specs.List.Sorted.{IsSearchInRange, IsBinarySearchResult, IsNonDecreasingBy}
use Rattle.std.specs.Ordering.{nat_cmp, ordering_index}
use Rattle.std.proofs.lemmas.Cmp.{ranked}
use Rattle.std.proofs.lemmas.List.{get_or-take, length-take-le}
use Rattle.std.proofs.lemmas.List.Sorted.{IsNonDecreasingBy-from_default}
use Rattle.std.proofs.lemmas.Bool.Decides.{nat_tests}
use Rattle.store.specs.declared.entry.Entry.{Entry}
use Rattle.store.specs.Table.{entry_at, Ascends, HeldAmong, GapAmong}

module _ (es : List Entry) (n c : ℕ) (all : n ≤ length es) (a : Ascends es n) where
  in_use : (k : ℕ) → k < n → entry_at (take n es) k ≡ entry_at es k
  in_use k l = get_or-take n es k _ l

  cell_in_use : (k : ℕ) → k < n → (entry_at (take n es) k).cell ≡ (entry_at es k).cell
  cell_in_use k l = ap (λ (e : Entry). e.cell) (in_use k l)

  -- the comparisons with c rise
  rise : IsNonDecreasingBy (λ (e : Entry). ordering_index (nat_cmp e.cell c)) (take n es)
  rise = IsNonDecreasingBy-from_default (λ (e : Entry). ordering_index (nat_cmp e.cell c)) (take n es) (record { cell = 0; value = pos 0 }) (λ i j le l.
      let u : j < n = omega (arith, length-take-le n es all) in
      let cells : (entry_at (take n es) i).cell ≤ (entry_at (take n es) j).cell = grind (arith, a i j, cell_in_use i (omega arith), cell_in_use j u, λ (q : i ≡ j). ap (λ k. (entry_at (take n es) k).cell) q) in
      grind (arith, nat_tests))

  pub searched : (r : Result ℕ ℕ) → IsSearchInRange r (length (take n es)) → IsBinarySearchResult (λ (e : Entry). nat_cmp e.cell c) (take n es) r → MatchResult r (HeldAmong es n c) (GapAmong es n c)
  searched (Ok at) within equal =
      let u : at < n = omega (arith, length-take-le n es all) in
      record { used = u; is = sym (cell_in_use at u) ∙ ranked _ c _ (sym (equal _)) }
  searched (Err at) within parted =
      let len = length-take-le n es all in record {
        within = omega arith;
        below = λ k l. let r : (entry_at (take n es) k).cell < c = ranked _ c _ (sym ((parted rise).0 k _ (omega arith) l)) in let e = cell_in_use k (omega arith) in omega arith;
        above = λ k g l. let r : c < (entry_at (take n es) k).cell = ranked _ c _ (sym ((parted rise).1 k _ g (omega arith))) in let e = cell_in_use k l in omega arith;
      }
