use Rattle.std.proofs.Common.{rules}
use Rattle.console.proofs.Nexts.{nexts}
use Rattle.console.proofs.playing.obey_next.Goals as goal

pub returns : goal.returns
returns g c =
    nexts g.S.Store c.args.warehouse.now c.step-loading.new.warehouse c.args.loading c.args.buffer.now c.step-loading.new.buffer c.args.bytes.now c.args.offset c.requires c.step-loading.result g.O.Sink c.args.sink.now c.print.new.sink c.line_of.result
    c.print.result c.map.result c.line_of.ensures (c.step-loading.ensures.steps, c.step-loading.ensures.whole) c.print.ensures (search rules)
