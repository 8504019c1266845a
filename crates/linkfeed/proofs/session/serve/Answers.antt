use Rattle.std.proofs.Common.{◌∙◌, ap}
use Rattle.std.specs.Prelude.{slice_get, codes}
use Rattle.link.specs.Meaning.{Waiting, meaning_of}
use Rattle.linkfeed.proofs.Sessions.{serves, then}
use Rattle.linkfeed.proofs.session.serve.Goals as goal

pub returns : goal.returns
returns g c =
    let source = c.new-source.result in
    let took = g.O.Sink.took in
    serves c.args.line.bytes source.is_over (meaning_of source.line).comes c.new-source.ensures.begins
    (λ k. ap (λ (line : Waiting). slice_get line.bytes k) c.new-source.ensures.line ∙ c.begin-feeding.ensures.kept k)
    g.S.Store c.args.store c.args.size c.args.buffer.now g.O.Sink c.args.sink.now c.say-2.new.sink c.feed-store.new.sink c.feed-store.result.0 c.feed-store.new.buffer
    (then (took c.args.sink.now) (took c.say.new.sink) (took c.say-2.new.sink) (codes "Ready\n") (codes "Feeding\n") c.in_default.ensures c.in_default-say.ensures)
    _ c.feed-store.result.1 c.feed-store.ensures
