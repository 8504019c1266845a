use Rattle.std.proofs.Common.{arith}
use Rattle.store.proofs.Inserting.{ascends_less, copied_down, nonzero_less, stored_less}
use Rattle.store.proofs.Tidy.{tidy}
use Rattle.store.proofs.table.Table.close.Goals as goal

pub returns : goal.returns
returns g c =
    let copied = c.copy_within.ensures.by_index in
    stored_less _ _ _ _ _ _ (omega arith) (omega arith) (copied_down _ _ _ _ c.requires copied.0 copied.1) (tidy c.args.self.now)

pub invariant_of-self-clause-ascends : goal.invariant_of-self-clause-ascends
invariant_of-self-clause-ascends g c =
    let copied = c.copy_within.ensures.by_index in
    ascends_less _ _ _ _ _ _ (omega arith) (omega arith) (copied_down _ _ _ _ c.requires copied.0 copied.1) c.args.self.now.ascends

pub invariant_of-self-clause-nonzero : goal.invariant_of-self-clause-nonzero
invariant_of-self-clause-nonzero g c =
    let copied = c.copy_within.ensures.by_index in
    nonzero_less _ _ _ _ _ _ (omega arith) (omega arith) (copied_down _ _ _ _ c.requires copied.0 copied.1) c.args.self.now.nonzero
