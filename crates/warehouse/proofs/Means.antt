-- The mean is the nearest whole number, there is just one, and the code's quotient and remainders give it.
use Rattle.std.proofs.Common.{◌≡◌, ℕ, zero, suc, ◌+◌, ◌-◌, ◌*◌, ◌/◌, ◌%◌, ◌<◌, ◌≤◌, ℤ, pos, negsuc, ◌+ℤ◌, ◌-ℤ◌, ◌*ℤ◌, ◌<ℤ◌, nat_abs, sym, refl, ap, ◌∙◌, subst, ⊎_elim, mul-suc, arith}
use lib.IntN.{suc_ℤ, suc_ℤ-*ℤ}
use Rattle.std.specs.Int.{int_div_euclid, int_rem_euclid}
use Rattle.std.proofs.lemmas.Nat.{div-add-mod', mod_below}
use Rattle.std.proofs.lemmas.Int.{ints, by_lt_z}
use Rattle.std.proofs.lemmas.Bool.{cases_lt, lt-ltb, le-ltb, cond-true, cond-false}
use Rattle.warehouse.specs.Mean.{Nearest, floor, rest, goes_up, mean_of}
use Rattle.warehouse.specs.Laws.{OneMean}

rest_is : (z : ℤ) (d : ℕ) → 1 ≤ d → (z ≡ floor z d *ℤ pos d +ℤ pos (rest z d)) × (rest z d < d)
rest_is (pos s) d h = let q = div-add-mod' s d in let r = mod_below s d h in (omega (arith, ints), omega arith)
rest_is (negsuc s) d h = let q = div-add-mod' s d in let r = mod_below s d h in let m = mul-suc d (s / d) in (omega (arith, ints), omega arith)

next : (q : ℤ) → suc_ℤ q ≡ q +ℤ pos 1
next (pos n) = ap pos (omega arith)
next (negsuc zero) = refl
next (negsuc (suc n)) = omega (arith, ints)

times : (q : ℤ) (d k : ℕ) → (q +ℤ pos k) *ℤ pos d ≡ q *ℤ pos d +ℤ pos (k * d)
times q d zero = let e : q +ℤ pos 0 ≡ q = omega (arith, ints) in rw e (omega (arith, ints))
times q d (suc k) =
    let e : q +ℤ pos (suc k) ≡ suc_ℤ (q +ℤ pos k) = omega (arith, ints, next (q +ℤ pos k)) in
    rw e (omega (arith, ints, suc_ℤ-*ℤ (q +ℤ pos k) (pos d), times q d k))

-- z is q for each of d minutes, and r over
module _ (z q : ℤ) (d r : ℕ) (e : z ≡ q *ℤ pos d +ℤ pos r) (l : r < d) where
  below : 2 * r + nat_abs q % 2 ≤ d → Nearest z d q
  below h = record { near = omega (arith, ints); even = λ f. omega (arith, ints) }

  above : d < 2 * r + nat_abs q % 2 → Nearest z d (q +ℤ pos 1)
  above h = let t = times q d 1 in record { near = omega (arith, ints); even = λ f. omega (arith, ints) }

-- no two numbers are nearest
module _ (z : ℤ) (d : ℕ) (some : 1 ≤ d) where
  apart : (p : ℤ) (k : ℕ) → Nearest z d p → Nearest z d (p +ℤ pos (suc k)) → ⊥
  apart p zero n m =
      let t = times p d 1 in
      let e : nat_abs p % 2 ≡ 0 = n.even (omega (arith, ints)) in
      let f : nat_abs (p +ℤ pos 1) % 2 ≡ 0 = m.even (omega (arith, ints)) in
      omega (arith, ints)
  apart p (suc k) n m = let t = times p d (suc (suc k)) in omega (arith, ints)

  one : (p q : ℤ) → Nearest z d p → Nearest z d q → p ≡ q
  one p q n m =
      by_lt_z p q (λ lt. let e : q ≡ p +ℤ pos (suc (nat_abs (q -ℤ p) - 1)) = omega (arith, ints) in absurd (apart p (nat_abs (q -ℤ p) - 1) n (subst (Nearest z d) e m)))
      (λ ge. by_lt_z q p (λ lt. let e : p ≡ q +ℤ pos (suc (nat_abs (p -ℤ q) - 1)) = omega (arith, ints) in absurd (apart q (nat_abs (p -ℤ q) - 1) m (subst (Nearest z d) e n)))
      (λ le. omega (arith, ints)))

nearest : (z : ℤ) (d : ℕ) → 1 ≤ d → Nearest z d (mean_of z d)
nearest z d h =
    let (e, l) = rest_is z d h in
    ⊎_elim
    (λ (up : d < 2 * rest z d + nat_abs (floor z d) % 2).
    subst (Nearest z d) (sym (cond-true (goes_up z d) (floor z d +ℤ pos 1) (floor z d) (lt-ltb _ _ up))) (above z (floor z d) d (rest z d) e l up))
    (λ (down : 2 * rest z d + nat_abs (floor z d) % 2 ≤ d).
    subst (Nearest z d) (sym (cond-false (goes_up z d) (floor z d +ℤ pos 1) (floor z d) (le-ltb _ _ down))) (below z (floor z d) d (rest z d) e l down))
    (cases_lt d (2 * rest z d + nat_abs (floor z d) % 2))

pub one_mean : OneMean
one_mean z d h = (nearest z d h, λ q n. one z d h q (mean_of z d) n (nearest z d h))

-- the quotient and remainders of the code
div_is : (z : ℤ) (d : ℕ) → int_div_euclid z (pos d) ≡ floor z d
div_is (pos s) d = refl
div_is (negsuc s) d = refl

rem_is : (z : ℤ) (d : ℕ) → int_rem_euclid z (pos d) ≡ pos (rest z d)
rem_is (pos s) d = refl
rem_is (negsuc s) d = refl

odd_is : (b : ℤ) → int_rem_euclid b (pos 2) ≡ pos (nat_abs b % 2)
odd_is (pos n) = refl
odd_is (negsuc n) = omega (arith, ints)

module _ (z : ℤ) (d : ℕ) (b r o : ℤ) (div : b ≡ int_div_euclid z (pos d)) (rem : r ≡ int_rem_euclid z (pos d)) (odd : o ≡ int_rem_euclid b (pos 2)) where
  floor_is : b ≡ floor z d
  floor_is = div ∙ div_is z d

  rest_there : r ≡ pos (rest z d)
  rest_there = rem ∙ rem_is z d

  odd_there : o ≡ pos (nat_abs (floor z d) % 2)
  odd_there = odd ∙ odd_is b ∙ ap (λ q. pos (nat_abs q % 2)) floor_is

  pub goes : (pos d <ℤ (pos 2 *ℤ r +ℤ o)) → mean_of z d ≡ b +ℤ pos 1
  goes h =
      let l : d < 2 * rest z d + nat_abs (floor z d) % 2 = omega (arith, ints, rest_there, odd_there) in
      cond-true (goes_up z d) (floor z d +ℤ pos 1) (floor z d) (lt-ltb _ _ l) ∙ ap (λ q. q +ℤ pos 1) (sym floor_is)
