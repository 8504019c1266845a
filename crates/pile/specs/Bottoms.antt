-- The stores at the bottom of a pile: flat in a slice of the caller's, or sparse.
--   bottom_means    what such a store means
--   numbers_in      the slice of a flat one, and no numbers of a sparse one
--   IsFlat          it is a flat one
--   numbers_back    how many numbers there are for a flat store once it came back
--   EmptyUpTo       an empty flat store over so many numbers, of so many bands at most
use Rattle.std.specs.Prelude.{◌≡◌, ℕ, ◌-◌, ◌<◌, min, true, List, [], length, ℤ, pos}
use Rattle.haar.specs.Tiles.{cell_count}
use Rattle.store.specs.Meaning.{Meaning, filled}
use Rattle.store.specs.declared.sparse.Sparse.{Sparse}
use Rattle.store.specs.SparseMeaning.{sparse_means}
use Rattle.flat.specs.declared.slice.Flat.{Flat}
use Rattle.flat.specs.FlatMeaning.{flat_means}
use Rattle.flat.specs.Slice.{GreatestUpTo}
use Rattle.pile.specs.declared.boxed.Boxed.{Boxed}
use Rattle.pile.specs.Boxed.{boxed_means}
use Rattle.pile.specs.declared.either.Either.{Either}
use Rattle.pile.specs.declared.either.Either.TheVariants.{Left, Right}
use Rattle.pile.specs.Either.{either_means}

abbrev pub bottom_means : Either Flat (Boxed Sparse) → Meaning
bottom_means = either_means flat_means (boxed_means sparse_means)

abbrev pub numbers_in : Either Flat (Boxed Sparse) → List ℤ
numbers_in (Left flat) = flat.numbers.now
numbers_in (Right sparse) = []

abbrev pub IsFlat : Either Flat (Boxed Sparse) → Type 0
IsFlat (Left flat) = Unit {0}
IsFlat (Right sparse) = ⊥

-- how many numbers there are for a flat store once this one came back, where there were n before
abbrev pub numbers_back : Either Flat (Boxed Sparse) → ℕ → ℕ
numbers_back (Left flat) n = length flat.numbers.now
numbers_back (Right sparse) n = n

pub record EmptyUpTo (most numbers : ℕ) (m : Meaning) : Type 0 where
  pub bands : GreatestUpTo (min 5 most) numbers m.bands
  pub cells : (k : ℕ) → k < cell_count m.bands → m.cells k ≡ pos 0
  pub room : m.room ≡ pos (cell_count m.bands - filled m.cells (cell_count m.bands))
  pub clean : m.clean ≡ true
