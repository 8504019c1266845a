-- What the questions answer, for every input: a number with the cells read for it, or a fault with what was asked for.
--   piece T n look j k           S(j,k), with the cells read
--   range_reading T n look a b   the sum of the minutes from a to b - 1, with the cells read
--   sum_in, piece_in, range_in   S(j,k), and these two, of a warehouse of the view v
--   point_reading v i            minute i of a warehouse of the view v, with the checks before
--   sum_reading v a b            the sum of the minutes from a to b - 1
--   mean_reading v a b           their mean
--   point_answer, sum_answer, mean_answer   the same, where a fault comes with what was asked for
use Rattle.std.specs.Prelude.{ℕ, ◌-◌, ◌^◌, cond, ℤ, Ok, Err, Result, nat_le, nat_lt}
use Rattle.warehouse.specs.declared.fault.Asked.TheVariants.{Minute, Minutes}
use Rattle.warehouse.specs.declared.fault.Fault.{Fault}
use Rattle.warehouse.specs.declared.fault.Fault.TheVariants.{Range, Domain}
use Rattle.warehouse.specs.declared.fault.Refusal.{Refusal}
use Rattle.warehouse.specs.declared.reading.Reading.{Reading}
pub use Rattle.warehouse.specs.Faults.{refused}
use Rattle.warehouse.specs.Mean.{mean_of}
use Rattle.warehouse.specs.Read.{◌then◌, look, read, cells_read, read_range, range_cells}
use Rattle.warehouse.specs.View.{View}

abbrev pub counted : ℕ → ℤ → Result Reading Fault
counted cells s = Ok (record { value = s; cells = cells })

abbrev pub piece : ℕ → ℕ → (ℕ → Result ℤ Fault) → ℕ → ℕ → Result Reading Fault
piece T n look j k = ◌then◌ (read T n look j k) (counted (cells_read n j))

unfoldable pub range_reading : ℕ → ℕ → (ℕ → Result ℤ Fault) → ℕ → ℕ → Result Reading Fault
range_reading T n look a b = ◌then◌ (read_range T n look a b) (counted (range_cells n a b))

abbrev pub sum_in : View → ℕ → ℕ → Result ℤ Fault
sum_in v j k = read v.store.bands v.size (look v.store) j k

abbrev pub piece_in : View → ℕ → ℕ → Result Reading Fault
piece_in v j k = piece v.store.bands v.size (look v.store) j k

abbrev pub range_in : View → ℕ → ℕ → Result Reading Fault
range_in v a b = range_reading v.store.bands v.size (look v.store) a b

-- Domain past the size, then the cells
abbrev pub point_reading : View → ℕ → Result Reading Fault
point_reading v i = cond (nat_lt i (2 ^ v.size)) (piece_in v 0 i) (Err Domain)

-- Range where the range runs backward, Domain past the size, then the cells
abbrev pub sum_reading : View → ℕ → ℕ → Result Reading Fault
sum_reading v a b = cond (nat_lt b a) (Err Range) (cond (nat_lt (2 ^ v.size) b) (Err Domain) (range_in v a b))

-- a sum of d minutes as their mean
abbrev pub averaged : ℕ → Reading → Result Reading Fault
averaged d r = counted r.cells (mean_of r.value d)

-- Range where there is no minute, then as the sum
abbrev pub mean_reading : View → ℕ → ℕ → Result Reading Fault
mean_reading v a b = cond (nat_le b a) (Err Range) (◌then◌ (sum_reading v a b) (averaged (b - a)))

unfoldable pub point_answer : View → ℕ → Result Reading Refusal
point_answer v i = refused (Minute i) (point_reading v i)

unfoldable pub sum_answer : View → ℕ → ℕ → Result Reading Refusal
sum_answer v a b = refused (Minutes a b) (sum_reading v a b)

unfoldable pub mean_answer : View → ℕ → ℕ → Result Reading Refusal
mean_answer v a b = refused (Minutes a b) (mean_reading v a b)
