use Rattle.warehouse.specs.View.{known}
use Rattle.compare.proofs.Made.{fits, not_begun, load_made}
use Rattle.compare.proofs.playing.load.Goals as goal

pub returns-in_default-clause-made : goal.returns-in_default-clause-made
returns-in_default-clause-made g c h = not_begun (known g.S.Store.means c.args.warehouse.now) c.args.level c.args.index c.args.values.now h c.in_default.field-0 c.in_default.ensures

pub returns-in-Err-clause-made : goal.returns-in-Err-clause-made
returns-in-Err-clause-made g c h =
    load_made (known g.S.Store.means c.args.warehouse.now) (known g.S.Store.means c.finish.new.warehouse) c.args.level c.args.index c.args.values.now c.give_all.new.values c.in-Ok.begun c.give_all.result c.finish.result h
    (fits g.S.Store.means c.args.warehouse.now) c.in-Ok.ensures c.give_all.ensures.kept c.give_all.ensures.filled c.finish.ensures.finishes

pub returns-in_default-finish-clause-made : goal.returns-in_default-finish-clause-made
returns-in_default-finish-clause-made g c h =
    load_made (known g.S.Store.means c.args.warehouse.now) (known g.S.Store.means c.finish.new.warehouse) c.args.level c.args.index c.args.values.now c.give_all.new.values c.in-Ok.begun c.give_all.result c.finish.result h
    (fits g.S.Store.means c.args.warehouse.now) c.in-Ok.ensures c.give_all.ensures.kept c.give_all.ensures.filled c.finish.ensures.finishes
