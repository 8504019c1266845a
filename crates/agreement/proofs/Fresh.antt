-- Cells that go from zero to nonzero, counted along a list of cells and over the whole store.
use Rattle.std.proofs.Common.{◌≡◌, ℕ, zero, suc, ◌+◌, ◌-◌, ◌<◌, cond, eqb, List, [], ◌∷◌, ℤ, sym, refl, ap, ◌∙◌, subst, ap₂, ⊎_elim, arith}
use mathlib.Core.List.Memᴰ
use mathlib.Core.List.{Memᴰ}
use Rattle.std.proofs.lemmas.Bool.{cases_eq, eq-eqb, ne_eqb, cond-true, cond-false}
use Rattle.haar.specs.Count.{Apart}
use Rattle.store.specs.Meaning.{weight}
use Rattle.loads.specs.Loads.{fresh}
use Rattle.loads.specs.Skips.{fresh_gap}

-- along a list
abbrev pub along : (ℕ → ℤ) → (ℕ → ℤ) → List ℕ → ℕ
along x y [] = 0
along x y (c ∷ cs) = (weight (y c) - weight (x c)) + along x y cs

-- x with the number that y has in cell c
abbrev moved : (ℕ → ℤ) → (ℕ → ℤ) → ℕ → ℕ → ℤ
moved x y c d = cond (eqb d c) (y d) (x d)

moved_here : (x y : ℕ → ℤ) (c : ℕ) → moved x y c c ≡ y c
moved_here x y c = cond-true (eqb c c) (y c) (x c) (eq-eqb c c refl)

moved_other : (x y : ℕ → ℤ) (c d : ℕ) → (d ≡ c → ⊥) → moved x y c d ≡ x d
moved_other x y c d ne = cond-false (eqb d c) (y d) (x d) (ne_eqb d c ne)

same_fresh : (x z y : ℕ → ℤ) (b : ℕ) → ((c : ℕ) → c < b → z c ≡ x c) → fresh z y b ≡ fresh x y b
unfolding fresh
same_fresh x z y zero e = refl
same_fresh x z y (suc b) e = ap₂ (λ f w. f + (weight (y b) - w)) (same_fresh x z y b (λ c l. e c (omega arith))) (ap weight (e b (omega arith)))

-- one cell taken out
taken : (x y : ℕ → ℤ) (c b : ℕ) → c < b → fresh x y b ≡ (weight (y c) - weight (x c)) + fresh (moved x y c) y b
unfolding fresh
taken x y c zero l = absurd (omega arith)
taken x y c (suc b) l =
    ⊎_elim
    (λ (e : c ≡ b).
    let same = same_fresh x (moved x y c) y b (λ d h. moved_other x y c d (λ q. omega arith)) in
    let here : moved x y c b ≡ y b = ap (moved x y c) (sym e) ∙ moved_here x y c ∙ ap y e in
    let w = ap weight here in
    let u = ap (λ d. weight (y d)) e in
    let v = ap (λ d. weight (x d)) e in
    omega arith)
    (λ (ne : c ≡ b → ⊥).
    let i = taken x y c b (omega arith) in
    let w = ap weight (moved_other x y c b (λ q. ne (sym q))) in
    omega arith)
    (cases_eq c b)

same_along : (x z y : ℕ → ℤ) (cs : List ℕ) → ((c : ℕ) → Memᴰ c cs → z c ≡ x c) → along z y cs ≡ along x y cs
same_along x z y [] e = refl
same_along x z y (c ∷ cs) e = ap₂ (λ w r. (weight (y c) - w) + r) (ap weight (e c (Memᴰ.head refl))) (same_along x z y cs (λ d h. e d (Memᴰ.tail h)))

none_fresh : (x y : ℕ → ℤ) → fresh x y 0 ≡ 0
unfolding fresh
none_fresh x y = refl

-- the listed cells are all that change
pub all_along : (x y : ℕ → ℤ) (b : ℕ) (cs : List ℕ) → Apart cs → ((c : ℕ) → Memᴰ c cs → c < b) → ((c : ℕ) → c < b → (Memᴰ c cs → ⊥) → y c ≡ x c) → along x y cs ≡ fresh x y b
all_along x y b [] a l e = sym (fresh_gap x y 0 b (omega arith) (λ c _ h. e c h (λ m. Memᴰ.not-nil m)) ∙ none_fresh x y)
all_along x y b (c ∷ cs) a l e =
    let rest = all_along (moved x y c) y b cs a.1 (λ d h. l d (Memᴰ.tail h)) (λ d h no. ⊎_elim (λ (q : d ≡ c). ap y q ∙ sym (ap (moved x y c) q ∙ moved_here x y c)) (λ ne. e d h (λ m. ⊎_elim (λ (q : d ≡ c). ne q) no (Memᴰ.cases_cons m)) ∙ sym (moved_other x y c d ne)) (cases_eq d c)) in
    let same = same_along x (moved x y c) y cs (λ d h. moved_other x y c d (λ q. a.0 (subst (λ z. Memᴰ z cs) q h))) in
    let t = taken x y c b (l c (Memᴰ.head refl)) in
    omega arith
