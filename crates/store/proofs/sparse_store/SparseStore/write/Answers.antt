use Rattle.std.proofs.Common.{rules}
use Rattle.store.proofs.Storing.{counted_puts}
use Rattle.store.proofs.sparse_store.SparseStore.write.Goals as goal

pub invariant_of-self-clause-counted : goal.invariant_of-self-clause-counted
invariant_of-self-clause-counted c = counted_puts c.args.self.now.bands _ _ _ _ _ _ _ _ c.put.ensures.puts (search rules) c.args.self.now.counted
