-- A tree of minutes as a warehouse's view.
--   tree_view t   its size, and its store's meaning; a tree has no mark
use Rattle.store.specs.declared.interface.Store.{Ghosts}
use Rattle.warehouse.specs.declared.tree.Tree.{Tree}
use Rattle.warehouse.specs.View.{View}

abbrev pub tree_view : {S : Type 0} {g : Ghosts S} → Tree S g → View
tree_view {S} {g} t = record { size = t.size; mark = 0; store = g.means t.store.now }
