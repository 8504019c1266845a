use Rattle.std.proofs.Common.{◌<◌, length, refl, rules}
use Rattle.store.proofs.Inserting.{ascends_more, copied_up, nonzero_more, stored_more}
use Rattle.store.proofs.table.Table.insert.Goals as goal

pub returns : goal.returns
returns g c =
    let copied = c.copy_within.ensures.by_index in
    let room : c.args.self.now.used < length c.args.self.now.entries = search rules in
    stored_more _ _ _ _ _ _ refl c.requires.gap.within (copied_up _ _ _ _ _ c.requires.gap.within room c.copy_within.ensures.len copied.0 copied.1) _ refl c.requires.nonzero
    c.args.self.now.ascends c.requires.gap

pub invariant_of-self-clause-ascends : goal.invariant_of-self-clause-ascends
invariant_of-self-clause-ascends g c =
    let copied = c.copy_within.ensures.by_index in
    let room : c.args.self.now.used < length c.args.self.now.entries = search rules in
    ascends_more _ _ _ _ _ _ refl c.requires.gap.within (copied_up _ _ _ _ c.args.new c.requires.gap.within room c.copy_within.ensures.len copied.0 copied.1) c.args.self.now.ascends c.requires.gap

pub invariant_of-self-clause-nonzero : goal.invariant_of-self-clause-nonzero
invariant_of-self-clause-nonzero g c =
    let copied = c.copy_within.ensures.by_index in
    let room : c.args.self.now.used < length c.args.self.now.entries = search rules in
    nonzero_more _ _ _ _ _ _ refl c.requires.gap.within (copied_up _ _ _ _ c.args.new c.requires.gap.within room c.copy_within.ensures.len copied.0 copied.1) c.args.self.now.nonzero c.requires.nonzero
