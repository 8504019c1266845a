use Rattle.std.proofs.Common.{rules}
use Rattle.std.proofs.lemmas.List.Sorted.{answers_always}
use Rattle.store.specs.declared.entry.Entry.{Entry}
use Rattle.store.proofs.Searching.{searched}
use Rattle.store.proofs.table.Table.find.Goals as goal

pub returns : goal.returns
returns g c =
    let facts = c.binary_search_by_key.ensures in
    searched _ _ _ (search rules) c.args.self.now.ascends _ facts.bound (facts.position (λ (e : Entry). e.cell) (answers_always _ _ _ (λ f a r g called. search rules)))
