-- A caller's slice that was lent to a warehouse, and what it holds afterwards.
--   Kept      a store t is still on the loan of the store s, with its bands and what lies past its cells
--   Played    a load, a growth, a settling and a closing of a warehouse led from a store that meant m to one that means n
--   Holds     the slice ys, which was zs, has the cells of a store that means n, and past them what it had
--   Plays     all of it: what lending a slice to a warehouse for those calls leaves in the slice
use Rattle.std.specs.Prelude.{◌≡◌, ℕ, ◌<◌, ◌≤◌, List, ℤ, Result}
use Rattle.haar.specs.Tiles.{cell_count}
use Rattle.store.specs.Meaning.{Meaning, Settles}
use Rattle.flat.specs.declared.slice.Flat.{Flat}
use Rattle.flat.specs.Slice.{number_at, Made}
use Rattle.warehouse.specs.declared.fault.Refusal.{Refusal}
use Rattle.warehouse.specs.Founding.{cut}
use Rattle.warehouse.specs.View.{View, view}
use Rattle.loads.specs.declared.open.OpenLoad.{OpenLoad}
use Rattle.loads.specs.declared.open.RefusedLoad.{RefusedLoad}
use Rattle.loads.specs.Growing.{Growth}
use Rattle.loads.specs.Opening.{Finishes}

pub record Kept (s t : Flat) : Type 0 where
  pub loan : t.numbers.ghost_name ≡ s.numbers.ghost_name
  pub bands : t.bands ≡ s.bands
  pub past : (k : ℕ) → cell_count s.bands ≤ k → number_at t.numbers.now k ≡ number_at s.numbers.now k

abbrev pub Loaded : Type 0
Loaded = Result ℕ RefusedLoad

abbrev pub Raised : Type 0
Raised = Result ℕ Refusal

-- of a load l that was finished with this buffer; r and q are the answers of the load and of the growth
pub record Played (m : Meaning) (size : ℕ) (l : OpenLoad) (buffer : List ℤ) (r : Loaded) (q : Raised) (n : Meaning) : Type 0 where
  pub loaded : View
  pub grown : View
  pub settled : Meaning
  pub load : Finishes l (view m (cut m size) 0) buffer r loaded
  pub growth : Growth loaded q grown
  pub settle : Settles grown.store settled
  pub close : Settles settled n

pub record Holds (zs ys : List ℤ) (n : Meaning) : Type 0 where
  pub cells : (k : ℕ) → k < cell_count n.bands → number_at ys k ≡ n.cells k
  pub past : (k : ℕ) → cell_count n.bands ≤ k → number_at ys k ≡ number_at zs k

pub record Plays (zs : List ℤ) (size : ℕ) (l : OpenLoad) (buffer : List ℤ) (r : Loaded) (q : Raised) (ys : List ℤ) : Type 0 where
  pub before : Meaning
  pub after : Meaning
  pub made : Made zs before
  pub played : Played before size l buffer r q after
  pub holds : Holds zs ys after
