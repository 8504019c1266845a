use Rattle.std.proofs.Common.{ap, ◌∙◌, length}
use Rattle.loads.proofs.Inverse.{length_haar}
use Rattle.loads.proofs.Guarded.{back, ready, small}
use Rattle.loads.proofs.transform.Transformed.of.Goals as goal

pub invariant_of-result : goal.invariant_of-result
invariant_of-result c = record {
  many = ap length c.transform.ensures ∙ length_haar _ _ c.requires.0;
  small = small _ _ _ c.requires.0 c.transform.ensures c.requires.1 c.args.reach.short;
}

pub returns-clause-tree : goal.returns-clause-tree
returns-clause-tree c = ready _ _ _ c.requires.0 c.transform.ensures c.requires.1

pub returns-clause-back : goal.returns-clause-back
returns-clause-back c = back _ _ _ c.requires.0 c.transform.ensures
