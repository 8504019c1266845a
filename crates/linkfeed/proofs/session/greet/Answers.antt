use Rattle.std.proofs.Common.{refl, subst}
use Rattle.linkfeed.specs.Session.{Says}
use Rattle.linkfeed.proofs.Greetings.{greets_ready, greets_refused}
use Rattle.linkfeed.proofs.session.greet.Goals as goal

pub returns-in-Ok : goal.returns-in-Ok
returns-in-Ok g c =
    let (p, ready, moved) = c.in-Ok.ensures in
    greets_ready g.S.Store c.args.store c.args.size c.args.buffer.now g.O.Sink c.args.sink.now c.serve.new.sink c.serve.result.0 c.serve.new.buffer c.args.line c.wait.new.line p ready moved c.serve.result.1 c.serve.ensures

pub returns-in-Err : goal.returns-in-Err
returns-in-Err g c =
    let took = g.O.Sink.took in
    let before = c.args.sink.now in
    let after = c.say.new.sink in
    let (p, fails, welcome, moved) = c.in-Err.ensures in
    let says = subst (λ words. Says (took before) (took after) (g.O.Sink.stuck after) words c.say.result) c.refusal.ensures c.say.ensures in
    greets_refused g.S.Store c.args.store c.args.size c.args.buffer.now g.O.Sink before after c.args.store c.args.buffer.now c.args.line.bytes p c.in-Err.refused.fault fails refl refl c.say.result says
