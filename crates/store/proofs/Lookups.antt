-- What a lookup finds in a table.
use Rattle.std.proofs.Common.{◌≡◌, ℕ, zero, suc, ◌<◌, ◌⊎◌, List, ℤ, pos, Option, Some, None, sym, refl, ap, ◌∙◌, inl, inr, arith}
use Rattle.std.proofs.lemmas.Bool.{cases_eq, cases_lt}
use Rattle.std.proofs.lemmas.Bool.Decides.{nat_tests}
use Rattle.store.specs.declared.entry.Entry.{Entry}
use Rattle.std.specs.Option.{unwrap_or}
use Rattle.store.specs.Table.{entry_at, lookup, Ascends, LacksAmong, HeldAmong, GapAmong, FindsAmong}

-- no entry has the cell
pub miss : (es : List Entry) (n c : ℕ) → LacksAmong es n c → lookup es n c ≡ pos 0
miss es zero c h = refl
miss es (suc n) c h =
    let here : (entry_at es n).cell ≡ c → ⊥ = h n (omega arith) in
    let rest = miss es n c (λ k l. h k (omega arith)) in
    grind (arith, nat_tests)

-- the entry at a place has it
pub hit : (es : List Entry) (n c at : ℕ) → Ascends es n → HeldAmong es n c at → lookup es n c ≡ (entry_at es at).value
hit es zero c at a h = absurd (omega (arith, h.used))
hit es (suc n) c at a h =
    elim (cases_eq at n) [
      | inl q ↦
          let e : (entry_at es n).cell ≡ c = ap (λ (k : ℕ). (entry_at es k).cell) (sym q) ∙ h.is in
          let v : (entry_at es n).value ≡ (entry_at es at).value = ap (λ (k : ℕ). (entry_at es k).value) (sym q) in
          grind (arith, nat_tests)
      | inr ne ↦
          let l : at < n = omega (arith, h.used) in
          let up = a at n l (omega arith) in
          let e = h.is in
          let rest = hit es n c at (λ j k i u. a j k i (omega arith)) (record { used = l; is = h.is }) in
          grind (arith, nat_tests)
    ]

-- one of the two holds
pub held_or_not : (es : List Entry) (n c : ℕ) → ((at : ℕ) × HeldAmong es n c at) ⊎ LacksAmong es n c
held_or_not es zero c = inr (λ k l. absurd (omega arith))
held_or_not es (suc n) c =
    elim (cases_eq (entry_at es n).cell c) [
      | inl e ↦ inl (n, record { used = omega arith; is = e })
      | inr ne ↦ elim (held_or_not es n c) [
        | inl h ↦ inl (h.0, record { used = omega (arith, h.1.used); is = h.1.is })
        | inr lacks ↦ inr (λ k l e. elim (cases_eq k n) [
          | inl q ↦ ne (ap (λ (i : ℕ). (entry_at es i).cell) (sym q) ∙ e)
          | inr o ↦ lacks k (omega arith) e
        ])
      ]
    ]

-- a gap lacks the cell
pub gap_lacks : (es : List Entry) (n c at : ℕ) → GapAmong es n c at → LacksAmong es n c
gap_lacks es n c at g k l e =
    elim (cases_lt k at) [
      | inl u ↦ let b = g.below k u in omega arith
      | inr u ↦ let b = g.above k u l in omega arith
    ]

-- the same entries for a cell in two tables
pub carried : (es fs : List Entry) (n m c : ℕ) → Ascends es n → Ascends fs m
    → ((k : ℕ) → HeldAmong es n c k → (j : ℕ) × (j < m) × (entry_at fs j ≡ entry_at es k))
    → ((k : ℕ) → HeldAmong fs m c k → (j : ℕ) × (j < n) × (entry_at es j ≡ entry_at fs k))
    → lookup fs m c ≡ lookup es n c
carried es fs n m c a b there back =
    elim (held_or_not es n c) [
      | inl h ↦
          let g = there h.0 h.1 in
          hit fs m c g.0 b (record { used = g.1; is = ap (λ (e : Entry). e.cell) g.2 ∙ h.1.is })
          ∙ ap (λ (e : Entry). e.value) g.2 ∙ sym (hit es n c h.0 a h.1)
      | inr lacks ↦
          miss fs m c (λ k l e. let g = back k (record { used = l; is = e }) in lacks g.0 g.1 (ap (λ (x : Entry). x.cell) g.2 ∙ e))
          ∙ sym (miss es n c lacks)
    ]

-- the number of a cell, from what a lookup answers
pub found : (es : List Entry) (n c : ℕ) (r : Option ℤ) → FindsAmong es n c r → lookup es n c ≡ unwrap_or r (pos 0)
found es n c (Some v) f = f.0
found es n c None f = miss es n c f
