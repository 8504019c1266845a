-- What a comparison says.
use Rattle.std.specs.Prelude.{ℕ, List, ◌++◌, codes}
use Rattle.std.specs.Fmt.{decimal}
use Rattle.compare.specs.declared.comparison.Comparison.{Comparison}
use Rattle.compare.specs.declared.comparison.Comparison.TheVariants.{Bands, Differ, Alike}

abbrev pub comparison_words : Comparison → List ℕ
comparison_words Bands = codes "the two stores have not equally many bands"
comparison_words (Differ c) = codes "the two warehouses differ first in cell " ++ decimal c
comparison_words Alike = codes "the two warehouses share every cell"
