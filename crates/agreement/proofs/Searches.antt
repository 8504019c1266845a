-- What the searches find, and what a load touches.
use Rattle.std.proofs.Common.{◌≡◌, ℕ, zero, suc, ◌-◌, ◌/◌, ◌^◌, ◌<◌, ◌≤◌, min, Bool, true, false, cond, ◌⊎◌, List, [], ◌∷◌, ℤ, Some, None, Option, Result, sym, refl, ap, ◌∙◌, inl, inr, ⊎_elim, div-one, arith}
use mathlib.Core.List.Memᴰ
use mathlib.Core.List.{Memᴰ}
use Rattle.std.proofs.lemmas.Bool.{cases_lt, both_ways}
use Rattle.haar.specs.declared.coefficient.Coefficient.{Coefficient}
use Rattle.haar.specs.Load.{level, index, Touched}
use Rattle.warehouse.specs.declared.fault.Fault.{Fault}
use Rattle.agreement.specs.Check.{Write, put, lowest, or_this, barred, lesser, lowest_barred}
use Rattle.agreement.specs.Laws.{Lowest, LowestBarred, Subtree, RootPath, LawsHold}

lowest_more : (test : ℕ → Bool) (b : ℕ) (o : Option ℕ) (here : Bool) → test b ≡ here → Lowest test b o → Lowest test (suc b) (or_this o here b)
lowest_more test b (Some c) here e l = (omega arith, l.1, l.2)
lowest_more test b None true e l = (omega arith, e, l)
lowest_more test b None false e l = λ i h. ⊎_elim (λ (lt : i < b). l i lt) (λ (le : b ≤ i). let q : i ≡ b = omega arith in ap test q ∙ e) (cases_lt i b)

pub lowest_is : (test : ℕ → Bool) (b : ℕ) → Lowest test b (lowest test b)
lowest_is test zero = λ i h. absurd (omega arith)
lowest_is test (suc b) = lowest_more test b (lowest test b) (test b) refl (lowest_is test b)

barred_more : (look : ℕ → Result ℤ Fault) (c : ℕ) (v : ℤ) (ws : List Write) (o : Option ℕ) (here : Bool) → barred (look c) v ≡ here → LowestBarred look ws o → LowestBarred look (put c v ∷ ws) (cond here (Some (lesser c o)) o)
barred_more look c v ws None true e l = (
  (v, Memᴰ.head refl, e),
  λ d u h b. ⊎_elim (λ (q : put d u ≡ put c v). let q : d ≡ c = cc in omega arith) (λ t. absurd (both_ways _ (l d u t) b)) (Memᴰ.cases_cons h),
)
barred_more look c v ws (Some m) true e l = (
  ⊎_elim (λ (lt : c < m). let q : min c m ≡ c = omega arith in rw q (v, Memᴰ.head refl, e)) (λ (le : m ≤ c). let q : min c m ≡ m = omega arith in rw q (l.0.0, Memᴰ.tail l.0.1, l.0.2)) (cases_lt c m),
  λ d u h b. ⊎_elim (λ (q : put d u ≡ put c v). let q : d ≡ c = cc in omega arith) (λ t. omega (arith, l.1 d u t b)) (Memᴰ.cases_cons h),
)
barred_more look c v ws None false e l =
    λ d u h. ⊎_elim (λ (q : put d u ≡ put c v). let a : d ≡ c = cc in let b : u ≡ v = cc in cc) (λ t. l d u t) (Memᴰ.cases_cons h)
barred_more look c v ws (Some m) false e l = (
  (l.0.0, Memᴰ.tail l.0.1, l.0.2),
  λ d u h b. ⊎_elim (λ (q : put d u ≡ put c v). let x : d ≡ c = cc in let y : u ≡ v = cc in let z : barred (look d) u ≡ false = cc in absurd (both_ways _ z b)) (λ t. l.1 d u t b) (Memᴰ.cases_cons h),
)

pub barred_is : (look : ℕ → Result ℤ Fault) (ws : List Write) → LowestBarred look ws (lowest_barred look ws)
barred_is look [] = λ c v h. absurd (Memᴰ.not-nil h)
barred_is look (put c v ∷ ws) = barred_more look c v ws (lowest_barred look ws) (barred (look c) v) refl (barred_is look ws)

touched_means : (n m p : ℕ) (s : Coefficient) → (Touched n m p s → Subtree n m p s ⊎ RootPath n m p s) × (Subtree n m p s ⊎ RootPath n m p s → Touched n m p s)
touched_means n m p s = (
  (λ h.
      ⊎_elim
      (λ (lt : m < level n s). let z : 0 ≡ m - level n s = omega arith in inr (lt, sym (div-one (index s)) ∙ ap (λ x. index s / 2 ^ x) z ∙ h))
      (λ (le : level n s ≤ m). let z : level n s - m ≡ 0 = omega arith in inl (le, h ∙ ap (λ x. p / 2 ^ x) z ∙ div-one p))
      (cases_lt m (level n s))),
  ⊎_elim
      (λ (h : Subtree n m p s). let z : 0 ≡ level n s - m = omega (arith, h.0) in h.1 ∙ sym (div-one p) ∙ ap (λ x. p / 2 ^ x) z)
      (λ (h : RootPath n m p s). let z : m - level n s ≡ 0 = omega (arith, h.0) in ap (λ x. index s / 2 ^ x) z ∙ div-one (index s) ∙ h.1),
)

pub laws : LawsHold
laws = (lowest_is, barred_is, touched_means)
