-- The laws of splitting and halving.
use Rattle.std.proofs.Common.{◌≡◌, ℕ, zero, suc, ◌+◌, ◌-◌, ◌*◌, ◌/◌, ◌%◌, ◌^◌, ◌<◌, ◌≤◌, Bool, true, false, cond, eqb, length, ℤ, pos, negsuc, ◌+ℤ◌, ◌-ℤ◌, nat_abs, Ok, Err, sym, refl, ap, ◌∙◌, subst, inl, ⊎_elim, arith, pow_pos}
use lib.Pow.{split as divided}
use Rattle.std.proofs.lemmas.Int.{ints}
use Rattle.std.proofs.lemmas.Bool.{cases_lt, eqb-true, eqb-false, eq-eqb, ne_eqb, cond-true, cond-false}
use Rattle.warehouse.specs.declared.fault.Fault.{Fault}
use Rattle.warehouse.specs.declared.fault.Fault.TheVariants.{Torn}
use Rattle.warehouse.specs.Laws.{Greedy, SplitGreedy, SplitFew, HalvedExactly}
use Rattle.warehouse.specs.Read.{half, halve, longest, pieces}
use Rattle.warehouse.proofs.Pieces.{longest_is, pieces_more, pieces_none, Stage, stage_few, stage_more}
use Rattle.warehouse.proofs.Sums.{double_even}

greedy : (most n a b : ℕ) → b - a ≤ most → a ≤ b → Greedy n a b (pieces n a b)
greedy zero n a b l h = subst (Greedy n a b) (sym (pieces_none n a b (omega arith))) (omega arith)
greedy (suc most) n a b l h =
    ⊎_elim
    (λ (lt : a < b).
    let u = longest_is n a b lt in
    let k : a / 2 ^ longest n a b * 2 ^ longest n a b ≡ a = let e = u.here.aligned in omega (arith, divided a (longest n a b)) in
    subst (Greedy n a b) (sym (pieces_more n a b lt))
    (k, u.low, u.here, u.most, greedy most n (a + 2 ^ longest n a b) b (omega (arith, pow_pos (longest n a b))) u.here.ends))
    (λ (le : b ≤ a). subst (Greedy n a b) (sym (pieces_none n a b le)) (omega arith))
    (cases_lt a b)

pub split_greedy : SplitGreedy
split_greedy n a b h = greedy (b - a) n a b (omega arith) h

few : (most n k a b : ℕ) → b - a ≤ most → n ≤ 20 → b ≤ 2 ^ n → Stage n k a b → k + length (pieces n a b) ≤ 42
few zero n k a b l h i s = let e = ap length (pieces_none n a b (omega arith)) in omega (arith, stage_few n k a b h s)
few (suc most) n k a b l h i s =
    ⊎_elim
    (λ (lt : a < b).
    let u = longest_is n a b lt in
    let e = ap length (pieces_more n a b lt) in
    let r = few most n (suc k) (a + 2 ^ longest n a b) b (omega (arith, pow_pos (longest n a b))) h i (stage_more n k a b (longest n a b) h lt i u s) in
    omega arith)
    (λ (le : b ≤ a). let e = ap length (pieces_none n a b le) in omega (arith, stage_few n k a b h s))
    (cases_lt a b)

pub split_few : SplitFew
split_few n a b h i = let f = few (b - a) n 0 a b (omega arith) h i (inl (omega arith, omega arith)) in omega arith

twice : (z : ℤ) → nat_abs z % 2 ≡ 0 → half z +ℤ half z ≡ z
twice (pos n) e = ap pos (omega arith)
twice (negsuc n) e = ap negsuc (omega arith)

taken : (b : Bool) (v x : ℤ) (c : ℕ) → cond b (Ok v) (Err (Torn c)) ≡ Ok x → (b ≡ true) × (v ≡ x)
taken true v x c e = (refl, cc)
taken false v x c e = let z : ◌≡◌ {A = ℕ} 0 1 = cc in absurd (omega arith)

torn : (b : Bool) (v : ℤ) (f : Fault) (c : ℕ) → cond b (Ok v) (Err (Torn c)) ≡ Err f → (b ≡ false) × (f ≡ Torn c)
torn true v f c e = let z : ◌≡◌ {A = ℕ} 0 1 = cc in absurd (omega arith)
torn false v f c e = (refl, cc)

module _ (c k : ℕ) (s d : ℤ) where
  twice_half : (x : ℤ) → halve c k s d ≡ Ok x → (k % 2 ≡ 0 → x +ℤ x ≡ s +ℤ d) × (k % 2 ≡ 1 → x +ℤ x ≡ s -ℤ d)
  twice_half x e =
      let t = taken (eqb (nat_abs (s +ℤ d) % 2) 0) (cond (eqb (k % 2) 0) (half (s +ℤ d)) (half (s -ℤ d))) x c e in
      let even : nat_abs (s +ℤ d) % 2 ≡ 0 = eqb-true _ _ t.0 in
      let odd : nat_abs (s -ℤ d) % 2 ≡ 0 = omega (arith, ints) in (
        (λ q. ap (λ y. y +ℤ y) (sym t.1 ∙ cond-true (eqb (k % 2) 0) (half (s +ℤ d)) (half (s -ℤ d)) (eq-eqb _ _ q)) ∙ twice (s +ℤ d) even),
        (λ q. ap (λ y. y +ℤ y) (sym t.1 ∙ cond-false (eqb (k % 2) 0) (half (s +ℤ d)) (half (s -ℤ d)) (ne_eqb _ _ (λ z. omega arith))) ∙ twice (s -ℤ d) odd),
      )

  no_half : (f : Fault) → halve c k s d ≡ Err f → (f ≡ Torn c) × ((x : ℤ) → x +ℤ x ≡ s +ℤ d → ⊥)
  no_half f e =
      let t = torn (eqb (nat_abs (s +ℤ d) % 2) 0) (cond (eqb (k % 2) 0) (half (s +ℤ d)) (half (s -ℤ d))) f c e in
      (t.1, λ x q. eqb-false _ _ t.0 (ap (λ z. nat_abs z % 2) (sym q) ∙ double_even x))

pub halved_exactly : HalvedExactly
halved_exactly c k s d = (twice_half c k s d, no_half c k s d)
