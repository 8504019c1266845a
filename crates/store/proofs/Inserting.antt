-- A table with one entry more than another: what an insertion leaves true, and, read backwards, what a removal does.
use Rattle.std.proofs.Common.{◌≡◌, ℕ, ◌+◌, ◌-◌, ◌<◌, ◌≤◌, ◌⊎◌, List, length, set, ℤ, pos, sym, refl, ap, ◌∙◌, inl, inr, arith}
use Rattle.std.specs.List.{CopiedTo, SameBelow}
use Rattle.std.proofs.lemmas.Bool.{cases_lt, cases_order}
use Rattle.std.proofs.lemmas.List.{get_or-set_same, get_or-set_other}
use Rattle.store.specs.declared.entry.Entry.{Entry}
use Rattle.store.specs.Meaning.{weight}
use Rattle.store.specs.Table.{entry_at, Ascends, Nonzero, LacksAmong, HeldAmong, GapAmong, StoredAmong, lookup}
use Rattle.store.proofs.Counting.{weight_one}
use Rattle.store.proofs.Lookups.{hit, miss, gap_lacks, carried}
use Rattle.store.proofs.Tidy.{Tidy}

-- fs is es with a new entry at a place, and the n - at entries from there on one place up
pub record Inserted (es : List Entry) (at n : ℕ) (new : Entry) (fs : List Entry) : Type 0 where
  pub before : (k : ℕ) → k < at → entry_at fs k ≡ entry_at es k
  pub here : entry_at fs at ≡ new
  pub after : (k : ℕ) → at ≤ k → k < n → entry_at fs (k + 1) ≡ entry_at es k

-- the entries from a place on copied one place up, and the new one written there
pub copied_up : (es cs : List Entry) (at n : ℕ) (new : Entry) → at ≤ n → n < length es → length cs ≡ length es → CopiedTo es cs at (at + 1) (n - at) → SameBelow es cs (at + 1)
    → Inserted es at n new (set cs at new)
copied_up es cs at n new within room len copied below = record {
  before = λ k l. get_or-set_other cs at k new _ (λ q. omega arith) ∙ below k _ (omega arith);
  here = get_or-set_same cs at new _ (omega arith);
  after = λ k u l.
      get_or-set_other cs at (k + 1) new _ (λ q. omega arith) ∙ copied (k + 1) _ (omega arith) (omega arith)
      ∙ ap (entry_at es) (let e : at + (k + 1 - (at + 1)) ≡ k = omega arith in e);
}

-- the entries after a place copied one place down
pub copied_down : (es cs : List Entry) (at n : ℕ) → at < n → CopiedTo es cs (at + 1) at (n - (at + 1)) → SameBelow es cs at → Inserted cs at (n - 1) (entry_at es at) es
copied_down es cs at n l copied below = record {
  before = λ k u. sym (below k _ u);
  here = refl;
  after = λ k u v. sym (copied k _ u (omega arith) ∙ ap (entry_at es) (let e : at + 1 + (k - at) ≡ k + 1 = omega arith in e));
}

module _ (es fs : List Entry) (at n m : ℕ) (new : Entry) (more : m ≡ n + 1) (within : at ≤ n) (i : Inserted es at n new fs) where
  -- an entry after the new one
  moved : (k : ℕ) → at < k → k < m → entry_at fs k ≡ entry_at es (k - 1)
  moved k u l =
      let e : (k - 1) + 1 ≡ k = omega arith in
      ap (entry_at fs) (sym e) ∙ i.after (k - 1) (omega arith) (omega arith)

  -- where an entry of the smaller table went
  there : (k : ℕ) → k < n → (j : ℕ) × (j < m) × (entry_at fs j ≡ entry_at es k)
  there k l =
      elim (cases_lt k at) [
        | inl u ↦ (k, omega arith, i.before k u)
        | inr u ↦ (k + 1, omega arith, i.after k u l)
      ]

  -- where an entry of the larger one came from
  back : (k : ℕ) → k < m → (entry_at fs k ≡ new) ⊎ ((j : ℕ) × (j < n) × (entry_at es j ≡ entry_at fs k))
  back k l =
      elim (cases_order k at) [
        | inl q ↦ inl (ap (entry_at fs) q ∙ i.here)
        | inr (inl u) ↦ inr (k, omega arith, sym (i.before k u))
        | inr (inr u) ↦ inr (k - 1, omega arith, sym (moved k u l))
      ]

  pub ascends_more : Ascends es n → GapAmong es n new.cell at → Ascends fs m
  ascends_more a g j k jk km =
      elim (cases_order k at) [
        | inl q ↦
            let ck = ap (λ (e : Entry). e.cell) (ap (entry_at fs) q ∙ i.here) in
            let cj = ap (λ (e : Entry). e.cell) (i.before j (omega arith)) in
            let b = g.below j (omega arith) in
            omega arith
        | inr (inl u) ↦
            let ck = ap (λ (e : Entry). e.cell) (i.before k u) in
            let cj = ap (λ (e : Entry). e.cell) (i.before j (omega arith)) in
            let up = a j k jk (omega arith) in
            omega arith
        | inr (inr u) ↦
            let ck = ap (λ (e : Entry). e.cell) (moved k u km) in
            elim (cases_order j at) [
              | inl q ↦
                  let cj = ap (λ (e : Entry). e.cell) (ap (entry_at fs) q ∙ i.here) in
                  let b = g.above (k - 1) (omega arith) (omega arith) in
                  omega arith
              | inr (inl v) ↦
                  let cj = ap (λ (e : Entry). e.cell) (i.before j v) in
                  let up = a j (k - 1) (omega arith) (omega arith) in
                  omega arith
              | inr (inr v) ↦
                  let cj = ap (λ (e : Entry). e.cell) (moved j v (omega arith)) in
                  let up = a (j - 1) (k - 1) (omega arith) (omega arith) in
                  omega arith
            ]
      ]

  pub ascends_less : Ascends fs m → Ascends es n
  ascends_less a j k jk kn =
      elim (cases_lt j at) [
        | inl u ↦
            let cj = ap (λ (e : Entry). e.cell) (i.before j u) in
            elim (cases_lt k at) [
              | inl v ↦
                  let ck = ap (λ (e : Entry). e.cell) (i.before k v) in
                  let up = a j k jk (omega arith) in
                  omega arith
              | inr v ↦
                  let ck = ap (λ (e : Entry). e.cell) (i.after k v kn) in
                  let up = a j (k + 1) (omega arith) (omega arith) in
                  omega arith
            ]
        | inr u ↦
            let cj = ap (λ (e : Entry). e.cell) (i.after j u (omega arith)) in
            let ck = ap (λ (e : Entry). e.cell) (i.after k (omega arith) kn) in
            let up = a (j + 1) (k + 1) (omega arith) (omega arith) in
            omega arith
      ]

  -- no number is zero
  pub nonzero_more : Nonzero es n → (new.value ≡ pos 0 → ⊥) → Nonzero fs m
  nonzero_more z ne k l =
      elim (back k l) [
        | inl q ↦ λ o. ne (sym (ap (λ (e : Entry). e.value) q) ∙ o)
        | inr b ↦ λ o. z b.0 b.1 (ap (λ (e : Entry). e.value) b.2 ∙ o)
      ]

  pub nonzero_less : Nonzero fs m → Nonzero es n
  nonzero_less z k l = let t = there k l in λ o. z t.0 t.1 (ap (λ (e : Entry). e.value) t.2 ∙ o)

  -- every other cell keeps its number
  pub others : Ascends es n → Ascends fs m → (c : ℕ) → (c ≡ new.cell → ⊥) → lookup fs m c ≡ lookup es n c
  others a b c ne =
      carried es fs n m c a b
      (λ k h. there k h.used)
      (λ k h. elim (back k h.used) [
        | inl e ↦ absurd (ne (sym h.is ∙ ap (λ (x : Entry). x.cell) e))
        | inr g ↦ g
      ])

  pub stored_more : (v : ℤ) → new.value ≡ v → (v ≡ pos 0 → ⊥) → Ascends es n → GapAmong es n new.cell at → StoredAmong es n new.cell v fs m
  stored_more v e z a g =
      let b = ascends_more a g in
      let none = ap weight (miss es n new.cell (gap_lacks es n _ at g)) in
      let is = hit fs m _ at b (record { used = omega arith; is = ap (λ (x : Entry). x.cell) i.here }) ∙ ap (λ (x : Entry). x.value) i.here ∙ e in
      record { here = is; others = λ c ne. others a b c ne; used = omega (arith, weight_one v z) }

  pub stored_less : Tidy fs m → StoredAmong fs m new.cell (pos 0) es n
  stored_less t =
      let a = ascends_less t.ascends in
      let held : HeldAmong fs m new.cell at = record { used = omega arith; is = ap (λ (x : Entry). x.cell) i.here } in
      let one = ap weight (hit fs m _ at t.ascends held) ∙ weight_one _ (t.nonzero at (omega arith)) in
      let lacks : LacksAmong es n new.cell = λ k l q. elim (cases_lt k at) [
        | inl u ↦ let up = t.ascends k at u (omega arith) in let ck = ap (λ (x : Entry). x.cell) (i.before k u) in let c = held.is in omega arith
        | inr u ↦ let up = t.ascends at (k + 1) (omega arith) (omega arith) in let ck = ap (λ (x : Entry). x.cell) (i.after k u l) in let c = held.is in omega arith
      ] in
      record { here = miss es n _ lacks; others = λ c ne. sym (others a t.ascends c ne); used = omega arith }
