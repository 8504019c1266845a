-- A chunk's tree, as a load reads it.
--   minutes_of t    the data that the tree t tells: the chunk's minutes, and zero elsewhere
--   values_of t     the chunk's values
--   alone_of t      its minutes alone, from minute 0
--   at_chunk t R    a relation R of bands, size, level, index and data, at those of the tree t
use Rattle.std.specs.Prelude.{ℕ, List, ℤ}
use Rattle.loads.specs.declared.share.ChunkTree.{ChunkTree}
use Rattle.loads.specs.Reach.{at_reach}
use Rattle.loads.specs.Transform.{unhaar}
use Rattle.loads.specs.Share.{told, alone}

abbrev pub minutes_of : ChunkTree → ℕ → ℤ
minutes_of t = told t.reach.level t.reach.index t.numbers.now

abbrev pub values_of : ChunkTree → List ℤ
values_of t = unhaar t.reach.level t.numbers.now

abbrev pub alone_of : ChunkTree → ℕ → ℤ
alone_of t = alone (values_of t)

abbrev pub at_chunk : {X : Type 1} → ChunkTree → (ℕ → ℕ → ℕ → ℕ → (ℕ → ℤ) → X) → X
at_chunk t R = at_reach t.reach R (minutes_of t)
