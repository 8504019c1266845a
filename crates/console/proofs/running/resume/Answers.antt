use Rattle.std.proofs.Common.{subst, rules}
use Rattle.feedlaw.specs.Lines.{shown, text}
use Rattle.console.specs.Ends.{Takes}
use Rattle.console.proofs.Runs.{ok_before, resumed, stuck_after}
use Rattle.console.proofs.running.resume.Goals as goal

pub returns : goal.returns
returns g c =
    let a = c.pump-loading.new.sink in
    let b = c.print.new.sink in
    resumed g.S.Store c.args.warehouse.now c.pump-loading.new.warehouse c.pump-loading.result.0 c.args.buffer.now c.pump-loading.new.buffer g.I.Source c.args.source.now c.pump-loading.new.source g.O.Sink c.args.sink.now a c.pump-loading.result.1
    c.in_ok-pumped.was c.pump-loading.ensures b c.flush.new.self c.map_err-2.result c.print.result c.flush.result (ok_before c.print.result c.map_err.result c.map_err.ensures.variant c.in_ok-map_err.was)
    (subst (λ x. Takes (g.O.Sink.took a) (g.O.Sink.took b) (g.O.Sink.stuck b) (text (shown x)) c.print.result) c.end-line.ensures c.print.ensures) c.flush.ensures (search rules)

pub returns-in_err-map_err : goal.returns-in_err-map_err
returns-in_err-map_err g c =
    let a = c.pump-loading.new.sink in
    let b = c.print.new.sink in
    stuck_after g.S.Store c.args.warehouse.now c.pump-loading.new.warehouse c.pump-loading.result.0 c.args.buffer.now c.pump-loading.new.buffer g.I.Source c.args.source.now c.pump-loading.new.source g.O.Sink c.args.sink.now a c.pump-loading.result.1
    c.in_ok-pumped.was c.pump-loading.ensures b c.map_err.result _ c.print.result c.in_err-map_err.field-0.0
    (subst (λ x. Takes (g.O.Sink.took a) (g.O.Sink.took b) (g.O.Sink.stuck b) (text (shown x)) c.print.result) c.end-line.ensures c.print.ensures) (search rules) (search rules) (search rules)
