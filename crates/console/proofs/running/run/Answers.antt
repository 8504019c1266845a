use Rattle.std.proofs.Common.{subst, ◌∙◌, rules}
use Rattle.warehouse.specs.Founding.{Founded}
use Rattle.warehouse.specs.View.{unmarked}
use Rattle.warehouse.proofs.Marks.{no_mark}
use Rattle.console.specs.Running.{Resumed}
use Rattle.console.proofs.Runs.{ran}
use Rattle.console.proofs.running.run.Goals as goal

pub returns : goal.returns
returns g c =
    let left = c.resume-answer.new in
    let founded : Founded (unmarked (g.S.Store.means c.args.store) c.args.size) = search rules in
    let mark = c.take_over-warehouse.ensures.mark ∙ no_mark _ in
    ran g.S.Store c.args.store c.args.size founded left.warehouse c.settle.new.self.store (record { founded = founded; settles = c.settle.ensures.settles; settled = c.settle.ensures.store }) c.args.buffer.now left.buffer
    g.I.Source c.args.source.now left.source g.O.Sink c.args.sink.now left.sink c.resume-answer.result
    (subst (λ w. Resumed g.S.Store w c.args.buffer.now g.I.Source c.args.source.now left.source g.O.Sink c.args.sink.now left.sink c.resume-answer.result left.warehouse left.buffer)
    (λ t. record { store = c.take_over-warehouse.ensures.store t; asked = c.take_over-warehouse.ensures.size t; mark = mark t }) c.resume-answer.ensures)
