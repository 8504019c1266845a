-- The calls on a warehouse, and what they answer.
--   Call        a call that changes or asks a warehouse, with all that it is given
--   Answer      what a call answers: what it did, a number, a trend, or a refusal
--   repeats     what the refusal of a call repeats
--   fault_of    the fault of an answer, if it is a refusal
use Rattle.std.specs.Prelude.{ℕ, List, ℤ, Some, None, Option}
use Rattle.haar.specs.declared.trend.Trend.{Trend}
use Rattle.warehouse.specs.declared.fault.Asked.{Asked}
use Rattle.warehouse.specs.declared.fault.Asked.TheVariants.{Interval, Minute, Minutes, Size}
use Rattle.warehouse.specs.declared.fault.Fault.{Fault}
use Rattle.warehouse.specs.declared.fault.Refusal.{Refusal}

pub data Call : Type 0 where
  load : ℕ → ℕ → ℕ → List ℤ → Call  -- the finish of a load: level, index, values taken, the buffer on entry
  add : ℕ → ℤ → Call  -- a point addition: minute, value
  grow : Call
  settle : Call
  point : ℕ → Call  -- minute
  sum : ℕ → ℕ → Call  -- minutes from, to
  mean : ℕ → ℕ → Call  -- minutes from, to
  trend : ℕ → ℕ → Call  -- level, index

pub data Answer : Type 0 where
  wrote : ℕ → Answer  -- cells written
  grown : ℕ → Answer  -- the new size
  settled : Answer
  gave : ℤ → ℕ → Answer  -- a value, a sum or a mean, and the cells read
  tends : Trend → Answer
  refused : Refusal → Answer

-- at size n
abbrev pub repeats : ℕ → Call → Asked
repeats n (load m p taken buffer) = Interval m p
repeats n (add i x) = Minute i
repeats n grow = Size n
repeats n settle = Size n
repeats n (point i) = Minute i
repeats n (sum a b) = Minutes a b
repeats n (mean a b) = Minutes a b
repeats n (trend j k) = Interval j k

abbrev pub fault_of : Answer → Option Fault
fault_of (wrote _) = None
fault_of (grown _) = None
fault_of settled = None
fault_of (gave _ _) = None
fault_of (tends _) = None
fault_of (refused r) = Some r.fault
