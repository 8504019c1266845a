-- Halving a sum exactly, as the machine's operators do it.
use Rattle.std.proofs.Common.{◌≡◌, ℕ, suc, ◌/◌, ◌%◌, ◌^◌, ◌≤◌, Bool, true, false, cond, eqb, leb, ℤ, pos, negsuc, ◌+ℤ◌, ◌-ℤ◌, neg_ℤ, nat_abs, IfOk, Ok, Err, Result, sym, refl, ap, ◌∙◌, ap₂, arith, w64, SFits, to_z, of_z}
use lib.Signed.{quot_z}
use Rattle.std.proofs.lemmas.Int.{ints, to_z-of_z, fits_signed_from_abs}
use Rattle.std.proofs.lemmas.Bool.{leb-true, eq-eqb, ne_eqb, cond-true, cond-false}
use Rattle.warehouse.specs.declared.fault.Fault.{Fault}
use Rattle.warehouse.specs.declared.fault.Fault.TheVariants.{Torn}
use Rattle.warehouse.specs.Read.{sight, half, halve}

negated : (a b : ℕ) → a ≡ suc b → neg_ℤ (pos a) ≡ negsuc b
negated a b e = ap (λ x. neg_ℤ (pos x)) e

-- the quotient toward zero of an even number
quotient_half : (z : ℤ) → nat_abs z % 2 ≡ 0 → quot_z z (pos 2) ≡ half z
quotient_half (pos a) e = refl
quotient_half (negsuc a) e = negated (suc a / 2) (a / 2) (omega arith)

half_small : (z : ℤ) → nat_abs z ≤ 2 ^ 57 → nat_abs (half z) ≤ 2 ^ 56
half_small (pos a) h = omega arith
half_small (negsuc a) h = omega arith

-- within the limit
abbrev pub Small : Result ℤ Fault → Type 0
Small r = IfOk r (λ v. nat_abs v ≤ 2 ^ 56)

sight_cond : (b : Bool) (v : ℤ) (c : ℕ) → (b ≡ true → nat_abs v ≤ 2 ^ 56) → Small (cond b (Ok v) (Err (Torn c)))
sight_cond true v c h = h refl
sight_cond false v c h = tt

pub sight_small : (c : ℕ) (r : Result ℤ Fault) → Small (sight c r)
sight_small c (Ok v) = sight_cond (leb (nat_abs v) (2 ^ 56)) v c (leb-true _ _)
sight_small c (Err f) = tt

module _ (cell k : ℕ) (s d : ℤ) (a : nat_abs s ≤ 2 ^ 56) (b : nat_abs d ≤ 2 ^ 56) where
  plus_small : nat_abs (s +ℤ d) ≤ 2 ^ 57
  plus_small = omega (arith, ints)

  minus_small : nat_abs (s -ℤ d) ≤ 2 ^ 57
  minus_small = omega (arith, ints)

  either_small : (t : Bool) → nat_abs (cond t (half (s +ℤ d)) (half (s -ℤ d))) ≤ 2 ^ 56
  either_small true = half_small (s +ℤ d) plus_small
  either_small false = half_small (s -ℤ d) minus_small

  pub halve_small : Small (halve cell k s d)
  halve_small = sight_cond (eqb (nat_abs (s +ℤ d) % 2) 0) (cond (eqb (k % 2) 0) (half (s +ℤ d)) (half (s -ℤ d))) cell (λ _. either_small (eqb (k % 2) 0))

-- the machine's quotient of z by 2
quotient : (z : ℤ) → nat_abs z ≤ 2 ^ 57 → nat_abs z % 2 ≡ 0 → to_z w64 (of_z w64 (quot_z (to_z w64 (of_z w64 z)) (pos 2))) ≡ half z
quotient z b e =
    let h = half_small z b in
    ap (λ x. to_z w64 (of_z w64 (quot_z x (pos 2)))) (to_z-of_z w64 z (fits_signed_from_abs w64 z (omega arith))) ∙ ap (λ x. to_z w64 (of_z w64 x)) (quotient_half z e) ∙ to_z-of_z w64 (half z) (fits_signed_from_abs w64 (half z) (omega arith))

module _ (cell k : ℕ) (s d : ℤ) (a : nat_abs s ≤ 2 ^ 56) (b : nat_abs d ≤ 2 ^ 56) (f : SFits w64 s) (g : SFits w64 d) (even : nat_abs (s +ℤ d) % 2 ≡ 0) where
  passed : halve cell k s d ≡ Ok (cond (eqb (k % 2) 0) (half (s +ℤ d)) (half (s -ℤ d)))
  passed = cond-true (eqb (nat_abs (s +ℤ d) % 2) 0) (Ok (cond (eqb (k % 2) 0) (half (s +ℤ d)) (half (s -ℤ d)))) (Err (Torn cell)) (eq-eqb _ _ even)

  minus_even : nat_abs (s -ℤ d) % 2 ≡ 0
  minus_even = omega (arith, ints)

  pub left_half : k % 2 ≡ 0 → Ok (to_z w64 (of_z w64 (quot_z (to_z w64 (of_z w64 (to_z w64 (of_z w64 s) +ℤ to_z w64 (of_z w64 d)))) (pos 2)))) ≡ halve cell k s d
  left_half q =
      ap Ok (ap₂ (λ x y. to_z w64 (of_z w64 (quot_z (to_z w64 (of_z w64 (x +ℤ y))) (pos 2)))) (to_z-of_z w64 s f) (to_z-of_z w64 d g) ∙ quotient (s +ℤ d) (plus_small cell k s d a b) even ∙ sym (cond-true (eqb (k % 2) 0) (half (s +ℤ d)) (half (s -ℤ d)) (eq-eqb _ _ q)))
      ∙ sym passed

  pub right_half : (k % 2 ≡ 0 → ⊥) → Ok (to_z w64 (of_z w64 (quot_z (to_z w64 (of_z w64 (to_z w64 (of_z w64 s) -ℤ to_z w64 (of_z w64 d)))) (pos 2)))) ≡ halve cell k s d
  right_half q =
      ap Ok (ap₂ (λ x y. to_z w64 (of_z w64 (quot_z (to_z w64 (of_z w64 (x -ℤ y))) (pos 2)))) (to_z-of_z w64 s f) (to_z-of_z w64 d g) ∙ quotient (s -ℤ d) (minus_small cell k s d a b) minus_even ∙ sym (cond-false (eqb (k % 2) 0) (half (s +ℤ d)) (half (s -ℤ d)) (ne_eqb _ _ q)))
      ∙ sym passed
