-- A number stored in a table: what of it holds of a store.
use Rattle.std.proofs.Common.{◌≡◌, ℕ, ◌+◌, ◌<◌, ◌≤◌, List, ℤ, pos, Ok, Err, Result, refl, ap, ap₂, ◌∙◌, subst, inl, inr, arith}
use Rattle.std.proofs.lemmas.Bool.{cases_eq, cases_lt}
use Rattle.haar.specs.Tiles.{cell_count}
use Rattle.store.specs.declared.entry.Entry.{Entry}
use Rattle.store.specs.declared.fault.CellFault.{CellFault}
use Rattle.store.specs.declared.fault.CellFault.TheVariants.{Full}
use Rattle.store.specs.Meaning.{weight, filled}
use Rattle.store.specs.Table.{entry_at, lookup, CountedAmong, LacksAmong, HeldAmong, StoredAmong, Overfills, PutsAmong}
use Rattle.store.proofs.Counting.{weight_most, weight_one, filled_put}
use Rattle.store.proofs.Lookups.{hit, miss}
use Rattle.store.proofs.Tidy.{Tidy}

-- zero for a cell that has no entry: nothing to do
pub stored_none : (es : List Entry) (n c : ℕ) → LacksAmong es n c → StoredAmong es n c (pos 0) es n
stored_none es n c h = let z = miss es n c h in record { here = z; others = λ d ne. refl; used = ap (λ w. n + weight w) z }

-- a cell with no number has no entry
pub unheld : (es : List Entry) (n c : ℕ) → Tidy es n → weight (lookup es n c) ≡ 0 → LacksAmong es n c
unheld es n c t z k u e = let one = ap weight (hit es n c k t.ascends (record { used = u; is = e })) ∙ weight_one _ (t.nonzero k u) in omega arith

-- a new entry is refused where as many as allowed are in use
pub puts_full : (most : ℕ) (es : List Entry) (n c : ℕ) (v : ℤ) → LacksAmong es n c → (v ≡ pos 0 → ⊥) → most ≤ n → PutsAmong most es n c v (Err (Full c)) es n
puts_full most es n c v h z l = record {
  full = λ _. refl;
  done = λ free. absurd (free (ap weight (miss es n c h), weight_one v z, l));
  stored = λ e. cc;
  kept = λ _ _. (refl, refl);
}

-- a number for a cell that has an entry is never refused
pub puts_held : (most : ℕ) (es fs : List Entry) (n k c at : ℕ) (v : ℤ) → Tidy es n → HeldAmong es n c at → StoredAmong es n (entry_at es at).cell v fs k → PutsAmong most es n c v (Ok tt) fs k
puts_held most es fs n k c at v t h s =
    let one = ap weight (hit es n c at t.ascends h) ∙ weight_one _ (t.nonzero at h.used) in
    let P : ℕ → Type 0 = λ d. StoredAmong es n d v fs k in record {
      full = λ b. let none = b.0 in absurd (omega arith);
      done = λ _. refl;
      stored = λ _. subst P h.is s;
      kept = λ f e. cc;
    }

-- what a refusal says
pub puts_refused : (most : ℕ) (es fs : List Entry) (n k c : ℕ) (v : ℤ) (f : CellFault) → PutsAmong most es n c v (Err f) fs k → Overfills most es n c v
puts_refused most es fs n k c v f p =
    let no : (Overfills most es n c v → ⊥) → Overfills most es n c v = λ o. let e = p.done o in cc in
    elim (cases_eq (weight (lookup es n c)) 0) [
      | inr ne ↦ no (λ o. ne o.0)
      | inl none ↦ elim (cases_eq (weight v) 1) [
        | inr ne ↦ no (λ o. ne o.1)
        | inl one ↦ elim (cases_lt n most) [
          | inl free ↦ no (λ o. omega (arith, o.2))
          | inr full ↦ (none, one, full)
        ]
      ]
    ]

module _ (T most : ℕ) (es fs : List Entry) (n k c : ℕ) (v : ℤ) where
  -- nonzero cells and entries in use change alike
  pub counted_puts : (r : Result Unit CellFault) → PutsAmong most es n c v r fs k → c < cell_count T → CountedAmong T es n → CountedAmong T fs k
  counted_puts (Ok d) p l h =
      let s = p.stored refl in
      let put = filled_put (lookup es n) (lookup fs k) c (cell_count T) l (λ d _ ne. s.others d ne) in
      let here = ap weight s.here in
      let used = s.used in
      omega arith
  counted_puts (Err f) p l h = let e = p.kept f refl in let q = ap₂ (λ xs i. filled (lookup xs i) (cell_count T)) e.0 e.1 in omega (arith, e.1)

  pub spare_puts : (r : Result Unit CellFault) → PutsAmong most es n c v r fs k → n ≤ most → k ≤ most
  spare_puts (Ok d) p l =
      let s = (p.stored refl).used in
      let new = weight_most v in
      elim (cases_lt n most) [
        | inl free ↦ omega arith
        | inr full ↦ elim (cases_eq (weight (lookup es n c)) 0) [
          | inl none ↦ elim (cases_eq (weight v) 1) [
            | inl one ↦ let q = p.full (none, one, full) in cc
            | inr ne ↦ omega arith
          ]
          | inr ne ↦ omega arith
        ]
      ]
  spare_puts (Err f) p l = let e = (p.kept f refl).1 in omega arith
