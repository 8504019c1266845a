-- What a trend question answers, for every input.
--   inside n j k      the interval (j,k) lies inside the size n
--   Trended j         a level that has trends
--   graded j c d      the trend of the difference d in cell c: Fine past 2^53
--   trend_answer      the answer, where a fault comes with what was asked for
use Rattle.std.specs.Prelude.{ℕ, ◌-◌, ◌^◌, ◌≤◌, Bool, cond, ◌&&◌, ◌||◌, ℤ, Ok, Err, Result, ◌==◌, nat_le, nat_lt, unsigned_abs}
use Rattle.haar.specs.declared.coefficient.Coefficient.TheVariants.{Difference}
use Rattle.haar.specs.declared.trend.Trend.{Trend}
use Rattle.haar.specs.declared.trend.Trend.TheVariants.{Unfinished}
use Rattle.haar.specs.Tiles.{cell_number}
use Rattle.haar.specs.Trend.{trend_of}
use Rattle.store.specs.Meaning.{Meaning}
use Rattle.warehouse.specs.declared.fault.Asked.TheVariants as asked
use Rattle.warehouse.specs.declared.fault.Fault.{Fault}
use Rattle.warehouse.specs.declared.fault.Fault.TheVariants.{Interval, Domain, Fine}
use Rattle.warehouse.specs.declared.fault.Refusal.{Refusal}
use Rattle.warehouse.specs.Faults.{refused}
use Rattle.warehouse.specs.Read.{◌then◌, look}
use Rattle.warehouse.specs.View.{View, end_of}

abbrev pub inside : ℕ → ℕ → ℕ → Bool
inside n j k = nat_le j n && nat_lt k (2 ^ (n - j))

abbrev pub Trended : ℕ → Type 0
Trended j = (1 ≤ j) × (j ≤ 20)

abbrev pub graded : ℕ → ℕ → ℤ → Result Trend Fault
graded j c d = cond (nat_le (unsigned_abs d) (2 ^ 53)) (Ok (trend_of j d)) (Err (Fine c))

-- the trend of level j, from the difference in cell c
abbrev pub graded_in : Meaning → ℕ → ℕ → Result Trend Fault
graded_in m j c = ◌then◌ (look m c) (graded j c)

-- the trend of D(j,k), from its cell
abbrev pub graded_at : Meaning → ℕ → ℕ → Result Trend Fault
graded_at m j k = graded_in m j (cell_number m.bands (Difference j k))

-- Unfinished where the interval ends past the mark, else from its cell
abbrev pub trend_by : View → ℕ → ℕ → Result Trend Fault
trend_by v j k = cond (nat_lt v.mark (end_of j k)) (Ok Unfinished) (graded_at v.store j k)

-- Interval for a level that is 0 or over 20, Domain past the size, then the mark, then the cell
abbrev pub trend_reading : View → ℕ → ℕ → Result Trend Fault
trend_reading v j k = cond (j == 0 || nat_lt 20 j) (Err Interval) (cond (inside v.size j k) (trend_by v j k) (Err Domain))

unfoldable pub trend_answer : View → ℕ → ℕ → Result Trend Refusal
trend_answer v j k = refused (asked.Interval j k) (trend_reading v j k)
