-- What the questions answer where the cells are the Haar cells of some data: the data's own sums and differences, and never Torn.
--   Holds v f      the cells of the view v are those of the data f, each within the limit
--   ReadsBack      minutes, sums and means inside the size are answered by plain sums of the data, trends by their D: Unfinished past the mark, Fine past 2^53
--   WithoutBands   a store without bands has one minute, and refuses its cell
use Rattle.std.specs.Prelude.{◌≡◌, ℕ, ◌-◌, ◌*◌, ◌^◌, ◌<◌, ◌≤◌, ℤ, Ok, Err, unsigned_abs}
use Rattle.haar.specs.declared.coefficient.Coefficient.TheVariants.{Difference}
use Rattle.haar.specs.Haar.{HaarCells}
use Rattle.haar.specs.Tiles.{cell_number, cell_count, Inside}
use Rattle.haar.specs.Tree.{plain_sum, D}
use Rattle.haar.specs.Trend.{trend_of}
use Rattle.haar.specs.declared.trend.Trend.TheVariants.{Unfinished}
use Rattle.store.specs.Meaning.{Meaning}
use Rattle.store.specs.declared.fault.CellFault.TheVariants as cell
use Rattle.warehouse.specs.declared.fault.Asked.TheVariants.{Interval, Minute}
use Rattle.warehouse.specs.declared.fault.Fault.TheVariants.{Cell, Fine}
use Rattle.warehouse.specs.Ask.{point_answer, sum_answer, mean_answer}
use Rattle.warehouse.specs.Grading.{trend_answer}
use Rattle.warehouse.specs.Mean.{mean_of}
use Rattle.warehouse.specs.Read.{limit, cells_read, range_cells}
use Rattle.warehouse.specs.View.{View, view, end_of}

pub record Holds (v : View) (f : ℕ → ℤ) : Type 0 where
  pub some : 1 ≤ v.store.bands
  pub fits : v.size ≤ 4 * v.store.bands
  pub haar : HaarCells v.store.bands v.size f v.store.cells
  pub small : (c : ℕ) → c < cell_count v.store.bands → unsigned_abs (v.store.cells c) ≤ limit

abbrev pub ReadsBack : Type 0
ReadsBack =
    (v : View) (f : ℕ → ℤ) → Holds v f
    → ((i : ℕ) → i < 2 ^ v.size → point_answer v i ≡ Ok (record { value = f i; cells = cells_read v.size 0 }))
    × ((a b : ℕ) → a ≤ b → b ≤ 2 ^ v.size → sum_answer v a b ≡ Ok (record { value = plain_sum f a (b - a); cells = range_cells v.size a b }))
    × ((a b : ℕ) → a < b → b ≤ 2 ^ v.size → mean_answer v a b ≡ Ok (record { value = mean_of (plain_sum f a (b - a)) (b - a); cells = range_cells v.size a b }))
    × ((j k : ℕ) → j ≤ 20 → Inside v.size (Difference j k)
    → (v.mark < end_of j k → trend_answer v j k ≡ Ok Unfinished)
    × (end_of j k ≤ v.mark → unsigned_abs (D f j k) ≤ 2 ^ 53 → trend_answer v j k ≡ Ok (trend_of j (D f j k)))
    × (end_of j k ≤ v.mark → 2 ^ 53 < unsigned_abs (D f j k) → trend_answer v j k ≡ Err (record { fault = Fine (cell_number v.store.bands (Difference j k)); asked = Interval j k })))

abbrev pub WithoutBands : Type 0
WithoutBands = (m : Meaning) (asked mark : ℕ) → m.bands ≡ 0 → point_answer (view m asked mark) 0 ≡ Err (record { fault = Cell (cell.Cell 0); asked = Minute 0 })
