use Rattle.std.proofs.Common.{◌≡◌, ◌+◌, ◌<◌, [], length, drop, sym, refl, ◌∙◌, subst, rules}
use Rattle.std.proofs.lemmas.List.{drop_more, drop_all}
use Rattle.warehouse.specs.View.{known}
use Rattle.compare.specs.Playing.{Played}
use Rattle.compare.proofs.Histories.{played_leads, play_on}
use Rattle.compare.proofs.playing.play.Goals as goal

pub calls-init : goal.calls-init
calls-init g c = record { kept = refl; far = λ h. (h, λ w k p. p) }

pub calls-preserved : goal.calls-preserved
calls-preserved g c =
    let i = c.calls.invariant in
    let xs = c.args.calls.now in
    let at = c.calls.call-index in
    let more : at < length xs = search rules in
    record {
      kept = c.make.ensures.kept ∙ i.kept;
      far = λ h.
          let a = i.far h in
          let b =
          play_on (known g.S.Store.means c.calls.warehouse) (known g.S.Store.means c.make.new.warehouse) c.args.numbers.now c.calls.numbers (drop at xs) (drop (at + 1) xs) _ a.0 i.kept (drop_more xs at _ more) (c.make.ensures.made a.0) in
          (b.0, λ w k p. a.1 w k (b.1 w k p));
    }

pub returns-clause-plays : goal.returns-clause-plays
returns-clause-plays g c h =
    let a = c.calls.invariant.far h in
    let v = known g.S.Store.means c.args.warehouse.now in
    let w = known g.S.Store.means c.calls.warehouse in
    let zs = c.args.numbers.now in
    let none : drop c.calls.call-index c.args.calls.now ≡ [] = drop_all c.calls.call-index c.args.calls.now (search rules) in
    let played = a.1 w a.0 (subst (λ xs. Played w zs xs a.0 w a.0) (sym none) (refl, refl)) in
    record { history = a.0; played = played; leads = λ start leads. played_leads start zs c.args.calls.now v w h a.0 played leads }
