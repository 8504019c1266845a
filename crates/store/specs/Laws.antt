-- The laws of a store hold of every table.
use Rattle.std.specs.Prelude.{ℕ, ◌≤◌}
use Rattle.std.proofs.Common.{arith}
use Rattle.std.proofs.lemmas.Int.{ints}
use Rattle.haar.specs.Tiles.{cell_count}
use Rattle.store.specs.declared.table.Table.{Table}
use Rattle.store.specs.Meaning.{Lawful}
use Rattle.store.specs.Contents.{Counted, table_means}

pub table_lawful : {N : ℕ} (t : Table N) (T capacity : ℕ) → T ≤ 5 → capacity ≤ cell_count T → Counted T t → Lawful (table_means t T capacity)
table_lawful t T capacity few bounded counted = record { few = few; room = omega (arith, ints) }
