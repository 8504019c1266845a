use Rattle.std.proofs.Common.{◌≡◌, ◌-◌, Ok, sym, refl, ap, ◌∙◌, arith, w64, SFits, rules}
use Rattle.std.proofs.lemmas.Result.{err_from_is_err_and}
use Rattle.std.proofs.lemmas.Int.{to_z-of_z}
use Rattle.warehouse.specs.Read.{look, start}
use Rattle.warehouse.proofs.Descents.{on_the_way, tree_here, tree_over, first_there, first_found, way_first, way_end, way_lost, way_down, way_small}
use Rattle.warehouse.proofs.tree.Tree.sum.Goals as goal

pub unwrap-first-requires : goal.unwrap-first-requires
unwrap-first-requires g c =
    let m = g.S.Store.means c.args.self.now.store.now in
    let t = tree_here m.bands c.args.self.now.size c.args.level c.args.index c.bands.ensures.lawful.few c.requires.0 c.args.self.now.fits c.requires.1 in
    first_there m.bands _ _ _ _ c.bands.ensures.is t c.sum_cell.ensures

pub returns-in_err-sum : goal.returns-in_err-sum
returns-in_err-sum g c =
    let m = g.S.Store.means c.args.self.now.store.now in
    let p = err_from_is_err_and c.from_residual.result c.from_residual.ensures.1 in
    let t = tree_here m.bands c.args.self.now.size c.args.level c.args.index c.bands.ensures.lawful.few c.requires.0 c.args.self.now.fits c.requires.1 in
    let e = first_found m.bands _ _ _ _ c.bands.ensures.is t c.sum_cell.ensures _ c.unwrap-first.ensures in
    rw (p.1, p.2) (way_lost m.bands c.args.self.now.size (look m) c.args.level c.args.index (start c.args.self.now.size c.args.level - c.args.level) c.in_err-sum.field-0.0 (omega arith)
    (sym c.in_err-sum.was ∙ c.seen.ensures ∙ way_first m.bands c.args.self.now.size (look m) c.args.level c.args.index _ _ e refl))

pub loop-below-init : goal.loop-below-init
loop-below-init g c =
    let m = g.S.Store.means c.args.self.now.store.now in
    let f : SFits w64 c.in_ok-sum.sum = search rules in
    let t = tree_here m.bands c.args.self.now.size c.args.level c.args.index c.bands.ensures.lawful.few c.requires.0 c.args.self.now.fits c.requires.1 in
    let e = first_found m.bands _ _ _ _ c.bands.ensures.is t c.sum_cell.ensures _ c.unwrap-first.ensures in
    let r = c.reading_start.ensures.is in
    ap Ok (to_z-of_z w64 c.in_ok-sum.sum f) ∙ sym c.in_ok-sum.was ∙ c.seen.ensures
    ∙ way_first m.bands c.args.self.now.size (look m) c.args.level c.args.index _ _ e (omega arith)

pub lowered-requires : goal.lowered-requires
lowered-requires g c =
    let m = g.S.Store.means c.args.self.now.store.now in
    let r = c.reading_start.ensures.is in
    let k = c.loop-below.auto.below in
    let t = c.loop-below-test.true in
    let over = tree_over m.bands c.args.self.now.size c.args.level c.args.index c.bands.ensures.lawful.few c.requires.0 c.args.self.now.fits c.requires.1 (c.loop-below.below - 1) (omega arith) in
    record {
      tree = (over.low, over.inside);
      small = way_small m.bands c.args.self.now.size (look m) c.args.level c.args.index c.loop-below.below _ c.loop-below.invariant;
    }

pub returns-in_err-sum-2 : goal.returns-in_err-sum-2
returns-in_err-sum-2 g c =
    let m = g.S.Store.means c.args.self.now.store.now in
    let p = err_from_is_err_and c.from_residual-in_err-sum-2.result c.from_residual-in_err-sum-2.ensures.1 in
    let r = c.reading_start.ensures.is in
    let k = c.loop-below.auto.below in
    let e = way_down m.bands c.args.self.now.size (look m) c.args.level c.args.index c.loop-below.below _ c.loop-below-test.true (omega arith) c.loop-below.invariant in
    rw (p.1, p.2) (way_lost m.bands c.args.self.now.size (look m) c.args.level c.args.index (c.loop-below.below - 1) c.in_err-sum-2.field-0.0 (omega arith) (sym c.in_err-sum-2.was ∙ c.lowered.ensures ∙ e))

pub loop-below-preserved : goal.loop-below-preserved
loop-below-preserved g c =
    let m = g.S.Store.means c.args.self.now.store.now in
    let f : SFits w64 c.in_ok-sum-2.sum = search rules in
    let r = c.reading_start.ensures.is in
    let k = c.loop-below.auto.below in
    let e = way_down m.bands c.args.self.now.size (look m) c.args.level c.args.index c.loop-below.below _ c.loop-below-test.true (omega arith) c.loop-below.invariant in
    ap Ok (to_z-of_z w64 c.in_ok-sum-2.sum f) ∙ sym c.in_ok-sum-2.was ∙ c.lowered.ensures ∙ e

pub returns : goal.returns
returns g c =
    let m = g.S.Store.means c.args.self.now.store.now in
    let z : c.loop-below.below ≡ 0 = omega (arith, c.loop-below-test.false) in
    c.loop-below.invariant ∙ ap (on_the_way m.bands c.args.self.now.size (look m) c.args.level c.args.index) z ∙ way_end m.bands c.args.self.now.size (look m) c.args.level c.args.index
