-- Reading S(j,k) back, and how the data of a warehouse stay blank past its size.
use Rattle.std.proofs.Common.{◌≡◌, ℕ, suc, ◌+◌, ◌-◌, ◌*◌, ◌/◌, ◌^◌, ◌<◌, ◌≤◌, min, ℤ, ◌+ℤ◌, sym, ap, ◌∙◌, ap₂, ⊎_elim, div-lt_iff_lt-mul, arith, pow_pos, pow_mono, pow-add, shr_lt}
use native.Mathlib.Nat.{div-eq_of_lt, two-pow-succ}
use Rattle.std.proofs.lemmas.Bool.{cases_lt}
use Rattle.haar.specs.Tree.{S}
use Rattle.haar.specs.declared.coefficient.Coefficient.TheVariants.{TileSum}
use Rattle.haar.specs.Tiles.{cell_number, Inside}
use Rattle.haar.specs.Haar.{HaarCells}
use Rattle.haar.specs.Load.{Chunk}
use Rattle.haar.specs.Growth.{Blank}
use Rattle.haar.proofs.Numbers.{same_pow}
use Rattle.haar.proofs.Split.{value_whole}
use Rattle.haar.proofs.Count.{whole_inside}

module _ (n j k t : ℕ) (h : j ≤ n) (b : k < 2 ^ (n - j)) (e : t ≡ (j - 1) / 4) where
  same_index : k / 2 ^ (4 * t + 4 - j) ≡ k / 2 ^ (min (4 * t + 4) n - j)
  same_index =
      ⊎_elim
      (λ (lt : n < 4 * t + 4).
      let p : 2 ^ (n - j) ≤ 2 ^ (4 * t + 4 - j) = pow_mono {i = n - j} {j = 4 * t + 4 - j} (omega arith) in
      let q : min (4 * t + 4) n - j ≡ n - j = omega arith in
      div-eq_of_lt (omega arith) ∙ sym (rw q (div-eq_of_lt b)))
      (λ (le : 4 * t + 4 ≤ n). let q : 4 * t + 4 - j ≡ min (4 * t + 4) n - j = omega arith in ap (λ x. k / 2 ^ x) q)
      (cases_lt n (4 * t + 4))

  -- the tile of band t over (j,k) is inside the size
  pub start_inside : Inside n (TileSum t (k / 2 ^ (4 * t + 4 - j)))
  start_inside =
      let q : n - j ≡ n - min (4 * t + 4) n + (min (4 * t + 4) n - j) = omega arith in
      whole_inside n t _ (omega arith) (rw same_index (shr_lt (n - min (4 * t + 4) n) (min (4 * t + 4) n - j) (rw (← q) b)))

-- it holds the sum of level r, the smaller of 4t + 4 and n
pub read_start : (T n j k t : ℕ) (f x : ℕ → ℤ) → j ≤ n → k < 2 ^ (n - j) → t ≡ (j - 1) / 4 → HaarCells T n f x → x (cell_number T (TileSum t (k / 2 ^ (4 * t + 4 - j)))) ≡ S f (min (4 * t + 4) n) (k / 2 ^ (min (4 * t + 4) n - j))
read_start T n j k t f x h b e haar =
    haar.held _ (start_inside n j k t h b e) ∙ value_whole n f t _ (start_inside n j k t h b e) ∙ ap (S f (min (4 * t + 4) n)) (same_index n j k t h b e)

-- a chunk inside the size leaves the minutes past it alone
pub chunk_blank : (n m p : ℕ) (g : ℕ → ℤ) → m ≤ n → p < 2 ^ (n - m) → Chunk m p g → Blank n g
chunk_blank n m p g h b chunk i past =
    let e : 2 ^ n ≡ 2 ^ (n - m) * 2 ^ m = same_pow n (n - m + m) (omega arith) ∙ pow-add 2 (n - m) m in
    chunk i (λ q. omega (arith, (div-lt_iff_lt-mul {x = i} {y = 2 ^ (n - m)} (pow_pos m)).0 (omega arith)))

pub plus_blank : (n : ℕ) (f g : ℕ → ℤ) → Blank n f → Blank n g → Blank n (λ i. f i +ℤ g i)
plus_blank n f g a b i past = ap₂ ◌+ℤ◌ (a i past) (b i past)

pub grow_blank : (n : ℕ) (f : ℕ → ℤ) → Blank n f → Blank (suc n) f
grow_blank n f a i past = a i (omega (arith, two-pow-succ n))
