-- What a comparison of two stores finds.
--   ShareBelow            the two have the same number in each cell below a bound
--   Shared, DifferFirst   they have it in every cell; or the lowest cell in which they have not
--   Compared              the answer: unequal bands, the lowest cell in which they differ, or that there is none
use Rattle.std.specs.Prelude.{◌≡◌, ℕ, ◌<◌, ◌≢◌}
use Rattle.haar.specs.Tiles.{cell_count}
use Rattle.store.specs.Meaning.{Meaning}
use Rattle.compare.specs.declared.comparison.Comparison.{Comparison}
use Rattle.compare.specs.declared.comparison.Comparison.TheVariants.{Bands, Differ, Alike}

abbrev pub ShareBelow : Meaning → Meaning → ℕ → Type 0
ShareBelow s t b = (c : ℕ) → c < b → s.cells c ≡ t.cells c

-- of equally many bands, they share every cell
abbrev pub Shared : Meaning → Meaning → Type 0
Shared s t = ShareBelow s t (cell_count s.bands)

-- or c is the lowest cell in which they differ
abbrev pub DifferFirst : Meaning → Meaning → ℕ → Type 0
DifferFirst s t c = (c < cell_count s.bands) × (s.cells c ≢ t.cells c) × ShareBelow s t c

abbrev pub Compared : Meaning → Meaning → Comparison → Type 0
Compared s t Bands = s.bands ≡ t.bands → ⊥
Compared s t (Differ c) = (s.bands ≡ t.bands) × DifferFirst s t c
Compared s t Alike = (s.bands ≡ t.bands) × Shared s t
