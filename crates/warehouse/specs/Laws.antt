-- The laws of reading back, on any cells, each proved by the contract of a function that names it.
--   Greedy n a b ps  the intervals ps follow one another from a to b, each the longest that starts there
--   SplitGreedy      a range is split so
--   SplitFew         into at most 42 intervals
--   HalvedExactly    twice a half is the sum with its difference, or without it; Torn where there is no such half
--   OneMean          of every sum and every count of minutes from 1 on the mean is a nearest whole number, and no other is
--   ExactAmounts     the amount of a trend is exact: a finite float with the sign plus, the size divided by 2^(j-1)
use Rattle.std.specs.Prelude.{◌≡◌, ℕ, ◌+◌, ◌-◌, ◌*◌, ◌%◌, ◌^◌, ◌≤◌, false, List, [], ◌∷◌, length, ℤ, ◌+ℤ◌, ◌-ℤ◌, Ok, Err, ◌≢◌}
use lib.Ieee.Exact.{HasValue}
use Rattle.haar.specs.Trend.{amount}
use Rattle.warehouse.specs.declared.fault.Fault.{Fault}
use Rattle.warehouse.specs.declared.fault.Fault.TheVariants.{Torn}
use Rattle.warehouse.specs.Mean.{Nearest, mean_of}
use Rattle.warehouse.specs.Read.{halve, Interval, interval, pieces}

-- an interval of level j starts at a and ends by b
pub record Starts (j a b : ℕ) : Type 0 where
  pub aligned : a % 2 ^ j ≡ 0
  pub ends : a + 2 ^ j ≤ b

abbrev pub Greedy : ℕ → ℕ → ℕ → List Interval → Type 0
Greedy n a b [] = a ≡ b
Greedy n a b (interval j k ∷ rest) = (k * 2 ^ j ≡ a) × (j ≤ n) × Starts j a b × ((i : ℕ) → i ≤ n → Starts i a b → i ≤ j) × Greedy n (a + 2 ^ j) b rest

abbrev pub SplitGreedy : Type 0
SplitGreedy = (n a b : ℕ) → a ≤ b → Greedy n a b (pieces n a b)

abbrev pub SplitFew : Type 0
SplitFew = (n a b : ℕ) → n ≤ 20 → b ≤ 2 ^ n → length (pieces n a b) ≤ 42

abbrev pub HalvedExactly : Type 0
HalvedExactly =
    (c k : ℕ) (s d : ℤ)
    → ((x : ℤ) → halve c k s d ≡ Ok x → (k % 2 ≡ 0 → x +ℤ x ≡ s +ℤ d) × (k % 2 ≡ 1 → x +ℤ x ≡ s -ℤ d))
    × ((f : Fault) → halve c k s d ≡ Err f → (f ≡ Torn c) × ((x : ℤ) → x +ℤ x ≢ s +ℤ d))

abbrev pub OneMean : Type 0
OneMean = (z : ℤ) (d : ℕ) → 1 ≤ d → Nearest z d (mean_of z d) × ((q : ℤ) → Nearest z d q → q ≡ mean_of z d)

abbrev pub ExactAmounts : Type 0
ExactAmounts = (n j : ℕ) → n ≤ 2 ^ 53 → 1 ≤ j → j ≤ 20 → HasValue (amount j n) false n (2 ^ (j - 1))
