use Rattle.std.proofs.Common.{◌+◌, sym, ap, ◌∙◌, arith}
use Rattle.std.proofs.lemmas.Nat.{one_shl}
use Rattle.std.proofs.lemmas.Result.{err_from_is_err_and}
use Rattle.warehouse.specs.Read.{look}
use Rattle.warehouse.proofs.Progress.{added_fits, added, small_sum, so_far_all, piece_small, piece_inside, piece_lost, piece_more}
use Rattle.warehouse.proofs.tree.Tree.range.Goals as goal

pub piece-requires : goal.piece-requires
piece-requires g c =
    let m = g.S.Store.means c.args.self.now.store.now in
    let p = piece_inside m.bands _ (look m) _ _ c.args.self.now.most c.requires.inside _ _ c.loop-at.invariant c.loop-at-test.true _ c.longest-level.ensures.is in
    (p.0, p.1)

pub returns-in_err-piece : goal.returns-in_err-piece
returns-in_err-piece g c =
    let m = g.S.Store.means c.args.self.now.store.now in
    let p = err_from_is_err_and c.from_residual.result c.from_residual.ensures.1 in
    rw (p.1, p.2) (piece_lost m.bands _ (look m) _ _ c.args.self.now.most c.requires.inside _ _ c.loop-at.invariant c.loop-at-test.true _ c.longest-level.ensures.is c.in_err-piece.field-0.0 (sym c.piece.ensures ∙ c.in_err-piece.was))

pub overflow_add-sum : goal.overflow_add-sum
overflow_add-sum g c =
    let m = g.S.Store.means c.args.self.now.store.now in
    let s = small_sum m.bands _ (look m) _ _ c.args.self.now.most c.requires.inside _ _ c.loop-at.invariant in
    let p = piece_small m.bands c.args.self.now.size (look m) _ _ c.in_ok-piece.piece (sym c.piece.ensures ∙ c.in_ok-piece.was) in
    added_fits c.loop-at.sum.value c.in_ok-piece.piece.value s.0 p.0

pub loop-at-preserved : goal.loop-at-preserved
loop-at-preserved g c =
    let m = g.S.Store.means c.args.self.now.store.now in
    let low = c.longest-level.ensures.low in
    let e = one_shl c.longest-level.result 32 (omega arith) in
    let s = small_sum m.bands _ (look m) _ _ c.args.self.now.most c.requires.inside _ _ c.loop-at.invariant in
    let p = piece_small m.bands c.args.self.now.size (look m) _ _ c.in_ok-piece.piece (sym c.piece.ensures ∙ c.in_ok-piece.was) in
    piece_more m.bands _ (look m) _ _ c.args.self.now.most c.requires.inside _ _ c.loop-at.invariant c.loop-at-test.true _ c.longest-level.ensures.is
    c.in_ok-piece.piece _ _ (sym c.piece.ensures ∙ c.in_ok-piece.was) (omega arith) (ap (λ v. record { value = v; cells = c.loop-at.sum.cells + c.in_ok-piece.piece.cells }) (added c.loop-at.sum.value c.in_ok-piece.piece.value s.0 p.0))

pub returns : goal.returns
returns g c =
    let m = g.S.Store.means c.args.self.now.store.now in
    so_far_all m.bands _ (look m) _ _ c.args.self.now.most c.requires.inside _ _ c.loop-at.invariant c.loop-at-test.false
