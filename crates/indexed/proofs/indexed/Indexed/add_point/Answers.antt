use Rattle.std.proofs.Common.{[], ◌∷◌, subst, arith, w64, ◌*◌, ◌≤◌}
use Rattle.std.proofs.lemmas.Int.{to_z-of_z}
use Rattle.warehouse.specs.View.{known}
use Rattle.agreement.specs.Call.{add}
use Rattle.agreement.specs.Reply.{written_reply}
use Rattle.indexed.specs.Doing.{piles}
use Rattle.indexed.specs.Full.{WroteFor}
use Rattle.indexed.specs.Writing.{load_change}
use Rattle.indexed.specs.Step.{plain, Step}
use Rattle.indexed.proofs.Calls.{add_step, add_wrote}
use Rattle.indexed.proofs.indexed.Indexed.add_point.Goals as goal

pub returns-clause-step : goal.returns-clause-step
returns-clause-step g c =
    let v = known g.S.Store.means c.args.self.now.first in
    let fits : v.size ≤ 4 * v.store.bands = omega arith in
    subst (λ x. Step (piles v (g.I.Store.means c.args.self.now.index.store)) (plain (add c.args.minute x)) (written_reply c.add_point_beside.result) (piles (known g.S.Store.means c.add_point_beside.new.warehouse) (g.I.Store.means c.add_point_beside.new.beside.store)))
    (to_z-of_z w64 c.args.value c.ranges.value)
    (add_step (λ b. b.store) g.I.Store.means g.I.Store.puts _ _ v _ fits c.args.minute _ _ c.add_point_beside.ensures.adds)

pub returns-clause-index : goal.returns-clause-index
returns-clause-index g c =
    let v = known g.S.Store.means c.args.self.now.first in
    subst (λ x. WroteFor g.I.Store.puts v (load_change v.size 0 c.args.minute (x ∷ [])) c.add_point_beside.result c.args.self.now.index.store c.add_point_beside.new.beside.store)
    (to_z-of_z w64 c.args.value c.ranges.value)
    (add_wrote (λ b. b.store) g.I.Store.means g.I.Store.puts _ _ v _ c.args.minute _ _ c.add_point_beside.ensures.adds)
