use Rattle.std.proofs.Common.{drop, arith, rules, take_all, length-drop}
use Rattle.console.proofs.Onward.{onward_more, over, halted}
use Rattle.console.proofs.playing.play.Goals as goal

pub commands-preserved : goal.commands-preserved
commands-preserved g c =
    let w = c.in-Ok-Some.width in
    onward_more g.S.Store _ _ _ _ _ _ _ _ _ c.commands.invariant _ w _ (take_all _ (drop w c.commands.rest.now) (omega (arith, length-drop w c.commands.rest.now))) (search rules)

pub returns-in-Ok-None : goal.returns-in-Ok-None
returns-in-Ok-None g c =
    over g.S.Store g.O.Sink c.args.sink.now c.commands.sink c.obey_next-next.new.sink _ _ _ c.args.offset c.commands.here c.args.bytes.now c.commands.rest.now c.args.last c.obey_next-next.result.1 c.commands.invariant c.obey_next-next.ensures
    (search rules) (c.is_ready.ensures.enough c.commands-test.true)

pub returns-in-Err : goal.returns-in-Err
returns-in-Err g c =
    halted g.S.Store g.O.Sink c.args.sink.now c.commands.sink c.obey_next-next.new.sink _ _ _ c.args.offset c.commands.here c.args.bytes.now c.commands.rest.now c.args.last c.obey_next-next.result.1 c.commands.invariant c.obey_next-next.ensures
    c.in-Err.error (search rules)
