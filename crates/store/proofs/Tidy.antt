-- What the entries in use of every table meet.
use Rattle.std.proofs.Common.{ℕ, ◌≤◌, List, arith}
use Rattle.store.specs.declared.entry.Entry.{Entry}
use Rattle.store.specs.declared.table.Table.{Table}
use Rattle.store.specs.Table.{Ascends, Nonzero}

pub record Tidy (es : List Entry) (n : ℕ) : Type 0 where
  pub ascends : Ascends es n
  pub nonzero : Nonzero es n

pub tidy : {N : ℕ} (t : Table N) → Tidy t.entries t.used
tidy t = record { ascends = t.ascends; nonzero = t.nonzero }

-- fewer of the entries
pub tidy_part : (es : List Entry) (n k : ℕ) → k ≤ n → Tidy es n → Tidy es k
tidy_part es n k l t = record {
  ascends = λ i j u w. t.ascends i j u (omega arith);
  nonzero = λ i u. t.nonzero i (omega arith);
}
