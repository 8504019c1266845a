-- A table with another number in one entry.
use Rattle.std.proofs.Common.{◌≡◌, ℕ, ◌<◌, List, length, set, ℤ, pos, sym, refl, ap, ◌∙◌, inl, inr, arith}
use Rattle.std.proofs.lemmas.List.{get_or-set_same, get_or-set_other}
use Rattle.std.proofs.lemmas.Bool.{cases_eq}
use Rattle.store.specs.declared.entry.Entry.{Entry}
use Rattle.store.specs.Meaning.{weight}
use Rattle.store.specs.Table.{entry_at, Ascends, lookup, StoredAmong}
use Rattle.store.proofs.Counting.{weight_one}
use Rattle.store.proofs.Lookups.{hit, carried}
use Rattle.store.proofs.Tidy.{Tidy}

module _ (es : List Entry) (at : ℕ) (new : Entry) (l : at < length es) (same : new.cell ≡ (entry_at es at).cell) where
  here : entry_at (set es at new) at ≡ new
  here = get_or-set_same es at new _ l

  other : (k : ℕ) → (k ≡ at → ⊥) → entry_at (set es at new) k ≡ entry_at es k
  other k ne = get_or-set_other es at k new _ ne

  cells_same : (k : ℕ) → (entry_at (set es at new) k).cell ≡ (entry_at es k).cell
  cells_same k =
      elim (cases_eq k at) [
        | inl q ↦
            ap (λ (j : ℕ). (entry_at (set es at new) j).cell) q ∙ ap (λ (e : Entry). e.cell) here ∙ same
            ∙ ap (λ (j : ℕ). (entry_at es j).cell) (sym q)
        | inr ne ↦ ap (λ (e : Entry). e.cell) (other k ne)
      ]

  ascends_set : (n : ℕ) → Ascends es n → Ascends (set es at new) n
  ascends_set n a j k jk kn = let cj = cells_same j in let ck = cells_same k in let up = a j k jk kn in omega arith

  -- every other cell keeps its number
  others : (n : ℕ) → Ascends es n → (c : ℕ) → (c ≡ (entry_at es at).cell → ⊥) → lookup (set es at new) n c ≡ lookup es n c
  others n a c ne =
      let apart : (k : ℕ) → (entry_at es k).cell ≡ c → k ≡ at → ⊥ = λ k e q. ne (sym e ∙ ap (λ (j : ℕ). (entry_at es j).cell) q) in
      carried es (set es at new) n n c a (ascends_set n a)
      (λ k h. (k, h.used, other k (apart k h.is)))
      (λ k h. (k, h.used, sym (other k (apart k (sym (cells_same k) ∙ h.is)))))

  pub stored_set : (n : ℕ) (v : ℤ) → new.value ≡ v → (v ≡ pos 0 → ⊥) → at < n → Tidy es n → StoredAmong es n (entry_at es at).cell v (set es at new) n
  stored_set n v e z u t =
      let is = hit (set es at new) n _ at (ascends_set n t.ascends) (record { used = u; is = ap (λ (x : Entry). x.cell) here ∙ same })
      ∙ ap (λ (x : Entry). x.value) here ∙ e in
      let old = ap weight (hit es n _ at t.ascends (record { used = u; is = refl })) ∙ weight_one _ (t.nonzero at u) in
      record { here = is; others = λ c ne. others n t.ascends c ne; used = omega (arith, weight_one v z) }
