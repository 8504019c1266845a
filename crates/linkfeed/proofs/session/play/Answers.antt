use Rattle.std.proofs.Common.{subst}
use Rattle.link.specs.Meaning.{Waiting}
use Rattle.linkfeed.specs.Session.{Greeted, Greets, greeted_on}
use Rattle.linkfeed.proofs.Greetings.{plays}
use Rattle.linkfeed.proofs.session.play.Goals as goal

pub returns : goal.returns
returns g c =
    let kind = g.S.Store in
    let s = c.args.store in
    let n = c.args.size in
    let zs = c.args.buffer.now in
    let took = g.O.Sink.took in
    let left = c.greet-store.new in
    let t = c.greet-store.result.0 in
    let whole = subst (λ r. Greets kind s n zs c.new.result.bytes g.O.Sink c.say.new.sink left.sink r t left.buffer) c.in_default-greeted.is c.greet-store.ensures in
    let went = subst (λ (line : Waiting). Greeted kind s n zs line.bytes (took c.say.new.sink) (took left.sink) t left.buffer (greeted_on kind s n zs line.bytes)) c.new.ensures whole in
    plays kind s n zs c.args.captured.now g.O.Sink c.args.sink.now c.say.new.sink left.sink t left.buffer c.in_default.ensures went c.say-2.new.sink c.hand_over.new.sink c.in_default-say.ensures c.hand_over.result c.hand_over.ensures
