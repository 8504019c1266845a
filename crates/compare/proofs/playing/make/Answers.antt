use Rattle.std.proofs.Common.{◌≡◌, ◌-◌, ◌*◌, ◌^◌, min, length, take, drop, sym, ap, ◌∙◌, ap₂, subst, arith, w64, to_z, of_z, rules, take_all, length-drop}
use Rattle.std.proofs.lemmas.Int.{ints}
use Rattle.std.proofs.lemmas.List.{drop_min}
use Rattle.warehouse.specs.View.{known}
use Rattle.loads.specs.Addition.{AddsPoint}
use Rattle.agreement.specs.Call.{add, grow, settle, point, sum, mean, trend, settled}
use Rattle.agreement.specs.Reply.{reading_reply, trend_reply, written_reply, growth_reply}
use Rattle.agreement.proofs.Calls.{steps}
use Rattle.compare.specs.Playing.{loaded, is_begun, call_of, is_made, Makes}
use Rattle.compare.proofs.Made.{fits, made}
use Rattle.compare.proofs.playing.make.Goals as goal

pub returns-in-Load-clause-made : goal.returns-in-Load-clause-made
returns-in-Load-clause-made g c h =
    let v = known g.S.Store.means c.args.warehouse.now in
    let w = known g.S.Store.means c.load.new.warehouse in
    let zs = c.args.numbers.now in
    let place : c.min-place.result ≡ min c.in-Load.from (length zs) = search rules in
    let p = c.min-place.result in
    let from : take (length zs - p) (drop p zs) ≡ drop c.in-Load.from zs =
    take_all (length zs - p) (drop p zs) (omega (arith, length-drop p zs)) ∙ ap (λ k. drop k zs) place ∙ drop_min c.in-Load.from zs in
    subst (λ k. Makes (is_made v.size k) v (call_of zs k) h w) (sym c.in-Load.is)
    (subst (λ xs. Makes (is_begun v.size c.in-Load.level c.in-Load.index) v (loaded c.in-Load.level c.in-Load.index xs) h w) from (c.load.ensures.made h))

pub returns-in-Add-clause-made : goal.returns-in-Add-clause-made
returns-in-Add-clause-made g c h =
    let v = known g.S.Store.means c.args.warehouse.now in
    let w = known g.S.Store.means c.add_point.new.warehouse in
    let value : to_z w64 (of_z w64 c.in-Add.value) ≡ c.in-Add.value = omega (arith, ints) in
    let adds = subst (λ x. AddsPoint v c.in-Add.minute x c.add_point.result w) value c.add_point.ensures.adds in
    subst (λ k. Makes (is_made v.size k) v (call_of c.args.numbers.now k) h w) (sym c.in-Add.is)
    (made v w (add c.in-Add.minute c.in-Add.value) (written_reply c.add_point.result) h (steps.add v w c.in-Add.minute c.in-Add.value c.add_point.result (fits g.S.Store.means c.args.warehouse.now) adds))

pub returns-in-Grow-clause-made : goal.returns-in-Grow-clause-made
returns-in-Grow-clause-made g c h =
    let v = known g.S.Store.means c.args.warehouse.now in
    let w = known g.S.Store.means c.grow.new.warehouse in
    subst (λ k. Makes (is_made v.size k) v (call_of c.args.numbers.now k) h w) (sym c.in-Grow.is) (made v w grow (growth_reply c.grow.result) h (steps.grow v w c.grow.result c.grow.ensures.growth))

pub returns-in-Settle-clause-made : goal.returns-in-Settle-clause-made
returns-in-Settle-clause-made g c h =
    let v = known g.S.Store.means c.args.warehouse.now in
    let w = known g.S.Store.means c.settle.new.self in
    let size : w.size ≡ v.size = ap₂ (λ a t. min a (4 * t)) c.settle.ensures.size c.settle.ensures.settles.same.bands in
    let mark : w.mark ≡ v.mark = ap₂ (λ a n. min a (2 ^ n)) c.settle.ensures.mark size in
    subst (λ k. Makes (is_made v.size k) v (call_of c.args.numbers.now k) h w) (sym c.in-Settle.is) (made v w settle settled h (steps.settle v w size mark c.settle.ensures.settles))

pub returns-in-Point-clause-made : goal.returns-in-Point-clause-made
returns-in-Point-clause-made g c h =
    let v = known g.S.Store.means c.args.warehouse.now in
    subst (λ k. Makes (is_made v.size k) v (call_of c.args.numbers.now k) h v) (sym c.in-Point.is) (made v v (point c.in-Point.minute) (reading_reply c.point.result) h (steps.point v c.in-Point.minute c.point.result c.point.ensures))

pub returns-in-Sum-clause-made : goal.returns-in-Sum-clause-made
returns-in-Sum-clause-made g c h =
    let v = known g.S.Store.means c.args.warehouse.now in
    subst (λ k. Makes (is_made v.size k) v (call_of c.args.numbers.now k) h v) (sym c.in-Sum.is) (made v v (sum c.in-Sum.from c.in-Sum.to) (reading_reply c.sum.result) h (steps.sum v c.in-Sum.from c.in-Sum.to c.sum.result c.sum.ensures))

pub returns-in-Mean-clause-made : goal.returns-in-Mean-clause-made
returns-in-Mean-clause-made g c h =
    let v = known g.S.Store.means c.args.warehouse.now in
    subst (λ k. Makes (is_made v.size k) v (call_of c.args.numbers.now k) h v) (sym c.in-Mean.is) (made v v (mean c.in-Mean.from c.in-Mean.to) (reading_reply c.mean.result) h (steps.mean v c.in-Mean.from c.in-Mean.to c.mean.result c.mean.ensures))

pub returns-in-Trend-clause-made : goal.returns-in-Trend-clause-made
returns-in-Trend-clause-made g c h =
    let v = known g.S.Store.means c.args.warehouse.now in
    subst (λ k. Makes (is_made v.size k) v (call_of c.args.numbers.now k) h v) (sym c.in-Trend.is) (made v v (trend c.in-Trend.level c.in-Trend.index) (trend_reply c.trend.result) h (steps.trend v c.in-Trend.level c.in-Trend.index c.trend.result c.trend.ensures))
