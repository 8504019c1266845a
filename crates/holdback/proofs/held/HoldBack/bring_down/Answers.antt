use Rattle.std.proofs.Common.{ℕ, sym, subst}
use Rattle.store.specs.Meaning.{Settles}
use Rattle.store.proofs.Tidy.{tidy}
use Rattle.holdback.specs.Layer.{layer_means}
use Rattle.holdback.specs.Over.{held_over}
use Rattle.holdback.proofs.Poured.{settled}
use Rattle.holdback.proofs.held.HoldBack.bring_down.Goals as goal

pub returns-clause-settles : goal.returns-clause-settles
returns-clause-settles g c =
    let h = c.args.self.now in
    let m = g.S.Store.means c.settle.new.self in
    let P : ℕ → Type 0 = λ k. Settles (layer_means g.S.Store.means h) (held_over c.clear.new.self.entries k m) in
    subst P (sym c.clear.ensures)
    (settled (g.S.Store.means h.below) h.held.entries h.held.used (tidy h.held) c.requires (g.S.Store.means c.pour.new.self.below) m _ c.pour.ensures.same c.settle.ensures.settles)
