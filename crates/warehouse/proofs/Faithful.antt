-- On Haar cells, questions inside the size are answered by plain sums and differences.
use Rattle.std.proofs.Common.{◌≡◌, ℕ, ◌-◌, ◌*◌, ◌^◌, ◌<◌, ◌≤◌, min, cond, ◌||◌, eqb, ltb, leb, ℤ, nat_abs, Ok, Err, ap, ◌∙◌, ap₂, arith}
use Rattle.std.proofs.lemmas.Bool.{lt-ltb, le-ltb, le-leb, lt-leb, ne_eqb, and_from, or_from, cond-true, cond-false}
use Rattle.haar.specs.declared.coefficient.Coefficient.TheVariants.{Difference}
use Rattle.haar.specs.declared.trend.Trend.TheVariants.{Unfinished}
use Rattle.haar.specs.Tiles.{tiles_before, cell_number, cell_count, Inside}
use Rattle.haar.specs.Tree.{plain_sum, D}
use Rattle.haar.specs.Trend.{trend_of}
use Rattle.haar.proofs.Numbers.{inside_below}
use Rattle.store.specs.Meaning.{Meaning}
use Rattle.store.specs.declared.fault.CellFault.TheVariants as cell
use Rattle.warehouse.specs.declared.fault.Asked.TheVariants.{Interval, Minute, Minutes}
use Rattle.warehouse.specs.declared.fault.Fault.TheVariants as fault
use Rattle.warehouse.specs.declared.fault.Fault.TheVariants.{Cell, Range, Domain, Fine}
use Rattle.warehouse.specs.Ask.{counted, piece, range_reading, sum_reading, averaged, point_answer, sum_answer, mean_answer}
use Rattle.warehouse.specs.Faithful.{Holds, ReadsBack, WithoutBands}
use Rattle.warehouse.specs.Faults.{refused}
use Rattle.warehouse.specs.Grading.{inside, graded, graded_at, trend_by, trend_answer}
use Rattle.warehouse.specs.Mean.{mean_of}
use Rattle.warehouse.specs.Read.{◌then◌, look, sight, descend, read, cells_read, range_cells}
use Rattle.warehouse.specs.View.{View, end_of}
use Rattle.warehouse.proofs.Sums.{reads_point, reads_range}

module _ (v : View) (f : ℕ → ℤ) (h : Holds v f) where
  point_back : (i : ℕ) → i < 2 ^ v.size → point_answer v i ≡ Ok (record { value = f i; cells = cells_read v.size 0 })
  unfolding point_answer
  point_back i l =
      ap (refused (Minute i))
      (cond-true (ltb i (2 ^ v.size)) (piece v.store.bands v.size (look v.store) 0 i) (Err Domain) (lt-ltb _ _ l)
      ∙ ap (λ r. ◌then◌ r (counted (cells_read v.size 0))) (reads_point v.size f v.store h.some h.fits h.haar h.small i l))

  sum_read : (a b : ℕ) → a ≤ b → b ≤ 2 ^ v.size → sum_reading v a b ≡ counted (range_cells v.size a b) (plain_sum f a (b - a))
  unfolding range_reading
  sum_read a b l k =
      cond-false (ltb b a) (Err Range) _ (le-ltb _ _ l) ∙ cond-false (ltb (2 ^ v.size) b) (Err Domain) _ (le-ltb _ _ k)
      ∙ ap (λ r. ◌then◌ r (counted (range_cells v.size a b))) (reads_range v.size f v.store h.some h.fits h.haar h.small a b k)

  sum_back : (a b : ℕ) → a ≤ b → b ≤ 2 ^ v.size → sum_answer v a b ≡ Ok (record { value = plain_sum f a (b - a); cells = range_cells v.size a b })
  unfolding sum_answer
  sum_back a b l k = ap (refused (Minutes a b)) (sum_read a b l k)

  mean_back : (a b : ℕ) → a < b → b ≤ 2 ^ v.size → mean_answer v a b ≡ Ok (record { value = mean_of (plain_sum f a (b - a)) (b - a); cells = range_cells v.size a b })
  unfolding mean_answer
  mean_back a b l k =
      ap (refused (Minutes a b))
      (cond-false (leb b a) (Err Range) (◌then◌ (sum_reading v a b) (averaged (b - a))) (lt-leb _ _ l)
      ∙ ap (λ r. ◌then◌ r (averaged (b - a))) (sum_read a b (omega arith) k))

  module _ (j k : ℕ) (few : j ≤ 20) (i : Inside v.size (Difference j k)) where
    abbrev own_cell : ℕ
    own_cell = cell_number v.store.bands (Difference j k)

    -- the trend of D(j,k) by the mark and its cell
    by_mark : trend_answer v j k ≡ refused (Interval j k) (trend_by v j k)
    unfolding trend_answer
    by_mark =
        ap (refused (Interval j k))
        (cond-false (eqb j 0 || ltb 20 j) (Err fault.Interval) (cond (inside v.size j k) (trend_by v j k) (Err Domain)) (or_from _ _ (ne_eqb _ _ (omega arith)) (le-ltb _ _ few))
        ∙ cond-true (inside v.size j k) (trend_by v j k) (Err Domain) (and_from _ _ (le-leb _ _ i.1) (lt-ltb _ _ i.2)))

    trend_unfinished : v.mark < end_of j k → trend_answer v j k ≡ Ok Unfinished
    trend_unfinished past = by_mark ∙ ap (refused (Interval j k)) (cond-true (ltb v.mark (end_of j k)) (Ok Unfinished) (graded_at v.store j k) (lt-ltb _ _ past))

    module _ (done : end_of j k ≤ v.mark) where
      -- and, if it is not Fine
      graded_back : trend_answer v j k ≡ refused (Interval j k) (graded j own_cell (D f j k))
      graded_back =
          by_mark
          ∙ ap (refused (Interval j k))
          (cond-false (ltb v.mark (end_of j k)) (Ok Unfinished) (graded_at v.store j k) (le-ltb _ _ done)
          ∙ ap (λ r. ◌then◌ r (graded j own_cell))
          (cond-true (ltb own_cell (cell_count v.store.bands)) (Ok (v.store.cells own_cell)) (Err (Cell (cell.Cell own_cell))) (lt-ltb _ _ (inside_below v.store.bands v.size (Difference j k) h.some h.fits i))
          ∙ ap Ok (h.haar.held (Difference j k) i)))

      trend_back : nat_abs (D f j k) ≤ 2 ^ 53 → trend_answer v j k ≡ Ok (trend_of j (D f j k))
      trend_back l = graded_back ∙ ap (refused (Interval j k)) (cond-true (leb (nat_abs (D f j k)) (2 ^ 53)) (Ok (trend_of j (D f j k))) (Err (Fine own_cell)) (le-leb _ _ l))

      trend_fine : 2 ^ 53 < nat_abs (D f j k) → trend_answer v j k ≡ Err (record { fault = Fine own_cell; asked = Interval j k })
      trend_fine l = graded_back ∙ ap (refused (Interval j k)) (cond-false (leb (nat_abs (D f j k)) (2 ^ 53)) (Ok (trend_of j (D f j k))) (Err (Fine own_cell)) (lt-leb _ _ l))

pub reads_back : ReadsBack
reads_back v f h = (point_back v f h, sum_back v f h, mean_back v f h, λ j k few i. (trend_unfinished v f h j k few i, trend_back v f h j k few i, trend_fine v f h j k few i))

module _ (m : Meaning) (asked : ℕ) (e : m.bands ≡ 0) where
  no_size : min asked (4 * m.bands) ≡ 0
  no_size = omega arith

  no_cell : look m 0 ≡ Err (Cell (cell.Cell 0))
  unfolding tiles_before
  no_cell = let z = ap cell_count e in cond-false (ltb 0 (cell_count m.bands)) (Ok (m.cells 0)) (Err (Cell (cell.Cell 0))) (le-ltb _ _ (omega arith))

  no_reading : read m.bands (min asked (4 * m.bands)) (look m) 0 0 ≡ Err (Cell (cell.Cell 0))
  unfolding read descend
  no_reading = ap₂ (λ T n. read T n (look m) 0 0) e no_size ∙ ap (sight 0) no_cell

pub without_bands : WithoutBands
unfolding point_answer
without_bands m asked mark e =
    let z = ap (λ n. 2 ^ n) (no_size m asked e) in
    ap (refused (Minute 0))
    (cond-true (ltb 0 (2 ^ min asked (4 * m.bands))) (piece m.bands (min asked (4 * m.bands)) (look m) 0 0) (Err Domain) (lt-ltb _ _ (omega arith))
    ∙ ap (λ r. ◌then◌ r (counted (cells_read (min asked (4 * m.bands)) 0))) (no_reading m asked e))
