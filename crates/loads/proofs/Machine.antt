-- Numbers of a chunk, added, subtracted and halved by the machine.
use Rattle.std.proofs.Common.{◌≡◌, ℕ, ◌^◌, ◌<◌, List, length, get_or, set, ℤ, pos, ◌+ℤ◌, ◌-ℤ◌, ap₂, arith, w64, SFits, to_z, of_z, rules}
use lib.Signed.{quot_z}
use Rattle.std.proofs.lemmas.Int.{ints, to_z-of_z}
use Rattle.loads.specs.Transform.{joined, parted, Near, Within}

near_fits : (z : ℤ) → Near (2 ^ 62) z → SFits w64 z
near_fits z h = record { sfits = grind (arith, ints) }

-- a sum and a difference of a chunk's tree
pub pair_fits : (s d : ℤ) → Near (2 ^ 43) s → Near (2 ^ 61) d → SFits w64 (s +ℤ d) × SFits w64 (s -ℤ d)
pair_fits s d a b =
    (near_fits _ (omega (arith, ints), omega (arith, ints)), near_fits _ (omega (arith, ints), omega (arith, ints)))

pub halved : (z : ℤ) → SFits w64 z → to_z w64 (of_z w64 (quot_z (to_z w64 (of_z w64 z)) (pos 2))) ≡ quot_z z (pos 2)
halved z f = let q : SFits w64 (quot_z z (pos 2)) = search rules in simp to_z-of_z

-- the first number of a buffer and the one at h
module _ (h : ℕ) (zs : List ℤ) (l : h < length zs) (w : Within (2 ^ 61) zs) where
  near_first : Near (2 ^ 61) (get_or zs 0 (pos 0))
  near_first = w 0 (omega arith)

  near_other : Near (2 ^ 61) (get_or zs h (pos 0))
  near_other = w h l

  abbrev first : ℤ
  first = to_z w64 (of_z w64 (get_or zs 0 (pos 0)))

  abbrev other : ℤ
  other = to_z w64 (of_z w64 (get_or zs h (pos 0)))

  first_is : first ≡ get_or zs 0 (pos 0)
  first_is = to_z-of_z w64 _ (near_fits _ (omega (arith, ints, near_first), omega (arith, ints, near_first)))

  other_is : other ≡ get_or zs h (pos 0)
  other_is = to_z-of_z w64 _ (near_fits _ (omega (arith, ints, near_other), omega (arith, ints, near_other)))

  sum_fits : SFits w64 (get_or zs 0 (pos 0) +ℤ get_or zs h (pos 0))
  sum_fits = near_fits _ (omega (arith, ints, near_first, near_other), omega (arith, ints, near_first, near_other))

  difference_fits : SFits w64 (get_or zs 0 (pos 0) -ℤ get_or zs h (pos 0))
  difference_fits = near_fits _ (omega (arith, ints, near_first, near_other), omega (arith, ints, near_first, near_other))

  pub joined_is : set (set zs 0 (to_z w64 (of_z w64 (first +ℤ other)))) h (to_z w64 (of_z w64 (first -ℤ other))) ≡ joined h zs
  joined_is =
      rw (first_is, other_is)
      (ap₂ (λ x y. set (set zs 0 x) h y) (to_z-of_z w64 _ sum_fits) (to_z-of_z w64 _ difference_fits))

  pub parted_is : set (set zs 0 (to_z w64 (of_z w64 (quot_z (to_z w64 (of_z w64 (first +ℤ other))) (pos 2))))) h (to_z w64 (of_z w64 (quot_z (to_z w64 (of_z w64 (first -ℤ other))) (pos 2)))) ≡ parted h zs
  parted_is = rw (first_is, other_is) (ap₂ (λ x y. set (set zs 0 x) h y) (halved _ sum_fits) (halved _ difference_fits))
