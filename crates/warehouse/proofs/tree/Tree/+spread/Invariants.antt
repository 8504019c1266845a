use Rattle.warehouse.proofs.tree.Tree.+spread.Given as goal

abbrev pub decreases-spread : goal.decreases-spread
decreases-spread g l = l.level
