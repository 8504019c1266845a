use Rattle.std.proofs.Common.{◌≡◌, length, count_by, sym, ap, ◌∙◌, arith, rules}
use Rattle.std.proofs.lemmas.List.{length-take}
use Rattle.store.specs.declared.entry.Entry.{Entry}
use Rattle.holdback.specs.Over.{zero_at}
use Rattle.holdback.proofs.Counted.{fresh_counted}
use Rattle.holdback.proofs.held.HoldBack.count_fresh.Goals as goal

pub returns-clause-is : goal.returns-clause-is
returns-clause-is g c =
    let t = c.args.self.now.held in
    let m = g.S.Store.means c.args.self.now.below in
    let counted : c.count.result ≡ count_by (λ (e : Entry). zero_at m e.cell) c.entries.result.now = search rules in
    let within = simp length-take at (sym c.entries.ensures.len ∙ ap length c.entries.ensures.all) in
    counted ∙ ap (count_by (λ (e : Entry). zero_at m e.cell)) c.entries.ensures.all ∙ fresh_counted m t.entries t.used (omega arith)
