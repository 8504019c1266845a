-- A load that has written its touched cells below `from`.
use Rattle.std.proofs.Common.{◌≡◌, ℕ, ◌+◌, ◌*◌, ◌<◌, ◌≤◌, ℤ, pos, ◌+ℤ◌, ◌≤ℤ◌, sym, refl, ap, ◌∙◌, subst, ap₂, ⊎_elim, Ok, Err, Result, arith, w64, SFits, to_z, of_z}
use Rattle.std.specs.Result.{MatchResult}
use Rattle.std.proofs.lemmas.Int.{ints, to_z-of_z}
use Rattle.std.proofs.lemmas.Bool.{cases_eq}
use Rattle.haar.specs.declared.coefficient.Coefficient.{Coefficient}
use Rattle.haar.specs.Tiles.{cell_number, cell_count}
use Rattle.haar.specs.Haar.{value}
use Rattle.haar.specs.Load.{Loaded}
use Rattle.loads.specs.Reach.{Meets}
use Rattle.haar.proofs.Numbers.{one_coefficient, inside_below}
use Rattle.store.specs.Meaning.{Meaning, weight, filled, Bars, Put}
use Rattle.store.proofs.Counting.{put_keeps}
use Rattle.loads.specs.Loads.{fresh, Small, Clear, Stored}
use Rattle.loads.specs.Passes.{Partly}
use Rattle.loads.proofs.Fresh.{fresh_step, fresh_rises}

small_fits : (z : ℤ) → Small z → SFits w64 z
small_fits z h = record { sfits = grind (arith, ints) }

pub partly_start : (T n m p : ℕ) (g : ℕ → ℤ) (before : Meaning) → before.bands ≡ T → Clear T n m p g before.cells (cell_count T) → (y : ℕ → ℤ) → Loaded T n m p g before.cells y → pos (fresh before.cells y (cell_count T)) ≤ℤ before.room → Partly T n m p g before before 0
unfolding fresh
partly_start T n m p g before b small y load fits =
    record { bands = b; below = omega arith; small = small; after = y; load = load; fits = fits; added = λ s me l. absurd (omega arith); kept = λ c l no_one. refl; room = refl; left = omega (arith, ints) }

module _ (T n m p : ℕ) (g : ℕ → ℤ) (some : 1 ≤ T) (held : n ≤ 4 * T) (before now : Meaning) (from : ℕ) (part : Partly T n m p g before now from) where
  -- the cell that comes next is as it was
  module _ (s : Coefficient) (me : Meets n m p s) (at : cell_number T s ≡ from) where
    pub cell_in : from < cell_count T
    cell_in = subst (λ c. c < cell_count T) at (inside_below T n s some held me.inside)

    cell_kept : now.cells from ≡ before.cells from
    cell_kept = part.kept from cell_in (λ s' me' e l. omega arith)

    -- its new number, as the code adds it up
    module _ (number' share' : ℤ) (f₁ : SFits w64 number') (f₂ : SFits w64 share') (read : number' ≡ now.cells from) (is : share' ≡ value n g s) where
      sum_is : to_z w64 (of_z w64 number') +ℤ to_z w64 (of_z w64 share') ≡ before.cells from +ℤ value n g s
      sum_is = ap₂ ◌+ℤ◌ (to_z-of_z w64 _ f₁ ∙ read ∙ cell_kept) (to_z-of_z w64 _ f₂ ∙ is)

      pub sum_fits : SFits w64 (to_z w64 (of_z w64 number') +ℤ to_z w64 (of_z w64 share'))
      sum_fits =
          let sm : Small (before.cells from +ℤ value n g s) = subst (λ c. Small (before.cells c +ℤ value n g s)) at (part.small s me (inside_below T n s some held me.inside)) in
          subst (SFits w64) (sym sum_is) (small_fits _ sm)

      pub new_is : to_z w64 (of_z w64 (to_z w64 (of_z w64 number') +ℤ to_z w64 (of_z w64 share'))) ≡ before.cells from +ℤ value n g s
      new_is = to_z-of_z w64 _ sum_fits ∙ sum_is

    -- and there is room for it
    pub cell_open : (v : ℤ) → v ≡ before.cells from +ℤ value n g s → Bars now from v → ⊥
    cell_open v e bars =
        let a = fresh_step T n m p g before.cells part.after part.load s from me at in
        let r = fresh_rises before.cells part.after (from + 1) (cell_count T) (omega (arith, cell_in)) in
        let u = ap weight e in
        let w = ap weight cell_kept in
        let l = part.left in
        let f = part.fits in
        let b0 = bars.0 in
        let b1 = bars.1 in
        let b2 = bars.2 in
        omega (arith, ints)

    pub partly_step : (v : ℤ) (next : Meaning) → v ≡ before.cells from +ℤ value n g s → Put now from v next → Partly T n m p g before next (from + 1)
    partly_step v next e put =
        record { bands = put.bands ∙ part.bands; below = omega (arith, cell_in); small = part.small; after = part.after; load = part.load; fits = part.fits; added = added; kept = kept; room = room; left = left }
      where
        counts : cell_count now.bands ≡ cell_count T
        counts = ap cell_count part.bands

        other : (c : ℕ) → c < cell_count T → (c ≡ from → ⊥) → next.cells c ≡ now.cells c
        other c l ne = put.others c (omega (arith, counts)) ne

        added : (s' : Coefficient) → Meets n m p s' → cell_number T s' < from + 1 → next.cells (cell_number T s') ≡ before.cells (cell_number T s') +ℤ value n g s'
        added s' me' l =
            ⊎_elim
            (λ (q : cell_number T s' ≡ from).
            let same : s ≡ s' = one_coefficient T n s s' some held me.inside me'.inside (at ∙ sym q) in
            subst (λ z. next.cells (cell_number T z) ≡ before.cells (cell_number T z) +ℤ value n g z) same
            (subst (λ c. next.cells c ≡ before.cells c +ℤ value n g s) (sym at) (put.here ∙ e)))
            (λ (ne : cell_number T s' ≡ from → ⊥). other _ (inside_below T n s' some held me'.inside) ne ∙ part.added s' me' (omega arith))
            (cases_eq (cell_number T s') from)

        kept : (c : ℕ) → c < cell_count T → ((s' : Coefficient) → Meets n m p s' → cell_number T s' ≡ c → c < from + 1 → ⊥) → next.cells c ≡ before.cells c
        kept c l no_one =
            other c l (λ q. no_one s me (at ∙ sym q) (omega arith))
            ∙ part.kept c l (λ s' me' q a. no_one s' me' q (omega arith))

        room : next.room +ℤ pos (filled next.cells (cell_count T)) ≡ before.room +ℤ pos (filled before.cells (cell_count T))
        room =
            let k = put_keeps now next from v (omega (arith, counts, cell_in)) put in
            let a = ap (λ x. filled next.cells x) counts in
            let b = ap (λ x. filled now.cells x) counts in
            let r = part.room in
            omega (arith, ints)

        left : before.room ≤ℤ (next.room +ℤ pos (fresh before.cells part.after (from + 1)))
        left =
            let a = fresh_step T n m p g before.cells part.after part.load s from me at in
            let u = ap weight e in
            let w = ap weight cell_kept in
            let l = part.left in
            let r = put.room in
            omega (arith, ints)

pub partly_end : (T n m p : ℕ) (g : ℕ → ℤ) (some : 1 ≤ T) (held : n ≤ 4 * T) (before now : Meaning) → Partly T n m p g before now (cell_count T) → before.bands ≡ T → Stored T n m p g before now
partly_end T n m p g some held before now part b =
    record {
      bands = part.bands ∙ sym b;
      loaded = record {
        added = λ s i t. part.added s (record { inside = i; touched = t }) (inside_below T n s some held i);
        kept = λ c l no_one. part.kept c l (λ s me e a. no_one s me.inside me.touched e);
      };
      room = part.room;
    }

-- a pass that never stops
pub unstopped : {A E : Type 0} (r : Result A E) (P : Type 0) → MatchResult r (λ _. P) (λ _. ⊥) → P
unstopped (Ok _) P h = h
unstopped (Err _) P h = absurd h
