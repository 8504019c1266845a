-- The trend of a difference of level j.
use Rattle.std.specs.Prelude.{ℕ, zero, suc, ◌-◌, ◌^◌, false, ℤ, pos, negsuc, Float}
use Rattle.std.specs.Float.{binary64}
use Rattle.std.specs.Float.Ieee.{round}
use Rattle.haar.specs.declared.trend.Trend.{Trend}
use Rattle.haar.specs.declared.trend.Trend.TheVariants.{Falling, Rising, Level}

-- a size as a 64-bit float, halved j - 1 times: the float for size / 2^(j-1), which is exact up to 2^53
abbrev pub amount : ℕ → ℕ → Float
amount j size = round binary64 false size (2 ^ (j - 1))

abbrev pub trend_of : ℕ → ℤ → Trend
trend_of j (pos zero) = Level
trend_of j (pos (suc d)) = Falling (amount j (suc d))
trend_of j (negsuc d) = Rising (amount j (suc d))
