use Rattle.std.proofs.Common.{◌≡◌, ℕ, suc, ◌+◌, ◌-◌, ◌*◌, ◌/◌, ◌^◌, ◌<◌, ◌≤◌, pos, Ok, Err, get_or, length, sym, refl, ap, ◌∙◌, subst, pow_pos, arith, rules, w64, SFits, to_z, of_z, ◌-ℤ◌}
use Rattle.std.proofs.lemmas.Int.{to_z-of_z, fits_signed_from_abs}
use Rattle.std.proofs.lemmas.Result.{err_from_is_err_and}
use Rattle.warehouse.specs.Ask.{sum_in}
use Rattle.warehouse.specs.Read.{lower}
use Rattle.warehouse.specs.Tile.{Spread}
use Rattle.warehouse.specs.Tree.{tree_view}
use Rattle.warehouse.proofs.Descents.{tree_here}
use Rattle.warehouse.proofs.Spread.{sum_small, left_sum, right_sum, left_lost, half_len, half_start, half_next, halved_index, put_first, in_bands, first_lost, low_lost, halves_read, one_read}
use Rattle.warehouse.proofs.tree.Tree.+spread.Goals as goal

pub lowered-requires-clause-tree : goal.lowered-requires-clause-tree
lowered-requires-clause-tree g t c =
    let T = (g.S.Store.means c.args.self.now.store.now).bands in
    let a : suc (c.args.level - 1) ≡ c.args.level = omega (arith, c.if-level-eq0.false) in
    let b : 2 * c.args.index / 2 ≡ c.args.index = omega arith in
    let size = c.requires.size in
    rw (a, b) (in_bands c.args.self.now.size T c.args.level c.args.index size.0 c.args.self.now.fits size.1)

pub lowered-requires-clause-small : goal.lowered-requires-clause-small
lowered-requires-clause-small g t c =
    let s = get_or c.args.minutes.now 0 (pos 0) in
    let small = sum_small (tree_view c.args.self.now) c.args.level c.args.index s c.requires.sum in
    let f : SFits w64 s = fits_signed_from_abs w64 s (omega arith) in
    rw (to_z-of_z w64 s f) small

pub returns-in_err-left : goal.returns-in_err-left
returns-in_err-left g t c =
    let some : 0 < c.args.level = omega (arith, c.if-level-eq0.false) in
    let v = tree_view c.args.self.now in
    let s = get_or c.args.minutes.now 0 (pos 0) in
    let small = sum_small v c.args.level c.args.index s c.requires.sum in
    let f : SFits w64 s = fits_signed_from_abs w64 s (omega arith) in
    let p = err_from_is_err_and c.from_residual.result c.from_residual.ensures.1 in
    rw (p.1, p.2) (first_lost (sum_in v 0) (c.args.index * 2 ^ c.args.level) (2 ^ c.args.level) _ (pow_pos c.args.level) (ap (sum_in v 0) (sym (half_start c.args.index c.args.level some))
    ∙ left_lost v c.args.level c.args.index some c.requires.low c.requires.size.0 s c.requires.sum c.in_err-left.field-0.0 (ap (lower _ _ _ _) (sym (to_z-of_z w64 s f)) ∙ sym c.lowered.ensures ∙ c.in_err-left.was)))

pub bounds-low-0 : goal.bounds-low-0
bounds-low-0 g t c =
    let some : 0 < c.args.level = omega (arith, c.if-level-eq0.false) in
    let h = half_len c.args.level some in
    let p = pow_pos (c.args.level - 1) in
    search (rules, h, p)

pub overflow_sub-high : goal.overflow_sub-high
overflow_sub-high g t c =
    let some : 0 < c.args.level = omega (arith, c.if-level-eq0.false) in
    let v = tree_view c.args.self.now in
    let s = get_or c.args.minutes.now 0 (pos 0) in
    let small = sum_small v c.args.level c.args.index s c.requires.sum in
    let f : SFits w64 s = fits_signed_from_abs w64 s (omega arith) in
    let h : SFits w64 c.in_ok-left.left = search rules in
    let r = right_sum v c.args.level c.args.index some c.requires.low c.requires.size.0 s c.requires.sum c.in_ok-left.left (ap (lower _ _ _ _) (sym (to_z-of_z w64 s f)) ∙ sym c.lowered.ensures ∙ c.in_ok-left.was) in
    let b = sum_small v (c.args.level - 1) (2 * c.args.index + 1) _ r in
    rw (to_z-of_z w64 s f, to_z-of_z w64 c.in_ok-left.left h) (fits_signed_from_abs w64 _ (omega arith))

pub spread-requires : goal.spread-requires
spread-requires g t c κs within =
    let v = tree_view c.args.self.now in
    let some : 0 < c.args.level = omega (arith, c.if-level-eq0.false) in
    let s = get_or c.args.minutes.now 0 (pos 0) in
    let small = sum_small v c.args.level c.args.index s c.requires.sum in
    let f : SFits w64 s = fits_signed_from_abs w64 s (omega arith) in
    let h : SFits w64 c.in_ok-left.left = search rules in
    let n = half_len c.args.level some in
    let p = pow_pos (c.args.level - 1) in
    let l = c.split_at_mut-low.ensures.front_len in
    let put = put_first c.split_at_mut-low.result.0.now c.in_ok-left.left (2 ^ (c.args.level - 1)) (omega (arith, c.requires.many)) p in
    let left = left_sum v c.args.level c.args.index some c.requires.low c.requires.size.0 s c.requires.sum
    ∙ ap (lower _ _ _ _) (sym (to_z-of_z w64 s f)) ∙ sym c.lowered.ensures ∙ c.in_ok-left.was ∙ ap Ok (sym put.1) in
    let in_size = halved_index v.size c.args.level c.args.index (2 * c.args.index) some c.requires.size.0 c.requires.size.1 (omega arith) in
    rw (to_z-of_z w64 c.in_ok-left.left h) (search rules, (search rules, (omega (arith, c.requires.low), ((omega (arith, c.requires.size.0), in_size), (put.0, left)))))

pub returns-in_err-spread : goal.returns-in_err-spread
returns-in_err-spread g t c =
    let v = tree_view c.args.self.now in
    let some : 0 < c.args.level = omega (arith, c.if-level-eq0.false) in
    let p = err_from_is_err_and c.from_residual-in_err-spread.result c.from_residual-in_err-spread.ensures.1 in
    rw (p.1, p.2)
    (low_lost (sum_in v 0) (c.args.index * 2 ^ c.args.level) (2 * c.args.index * 2 ^ (c.args.level - 1)) ((2 * c.args.index + 1) * 2 ^ (c.args.level - 1)) (2 ^ (c.args.level - 1)) (2 ^ c.args.level)
    (half_start c.args.index c.args.level some) (half_next c.args.index c.args.level some) (half_len c.args.level some) c.in_err-spread.field-0.0
    (subst (λ r. Spread (sum_in v 0) (2 * c.args.index * 2 ^ (c.args.level - 1)) (2 ^ (c.args.level - 1)) r c.spread.new.minutes) c.in_err-spread.was c.spread.ensures))

pub spread-requires-2 : goal.spread-requires-2
spread-requires-2 g t c κs within =
    let v = tree_view c.args.self.now in
    let some : 0 < c.args.level = omega (arith, c.if-level-eq0.false) in
    let s = get_or c.args.minutes.now 0 (pos 0) in
    let small = sum_small v c.args.level c.args.index s c.requires.sum in
    let f : SFits w64 s = fits_signed_from_abs w64 s (omega arith) in
    let h : SFits w64 c.in_ok-left.left = search rules in
    let r = right_sum v c.args.level c.args.index some c.requires.low c.requires.size.0 s c.requires.sum c.in_ok-left.left (ap (lower _ _ _ _) (sym (to_z-of_z w64 s f)) ∙ sym c.lowered.ensures ∙ c.in_ok-left.was) in
    let b = sum_small v (c.args.level - 1) (2 * c.args.index + 1) _ r in
    let d : SFits w64 (s -ℤ c.in_ok-left.left) = fits_signed_from_abs w64 _ (omega arith) in
    let n = half_len c.args.level some in
    let p = pow_pos (c.args.level - 1) in
    let l = c.split_at_mut-low.ensures.back_len in
    let put = put_first c.split_at_mut-low.result.1.now (s -ℤ c.in_ok-left.left) (2 ^ (c.args.level - 1)) (omega (arith, c.requires.many)) p in
    let in_size = halved_index v.size c.args.level c.args.index (2 * c.args.index + 1) some c.requires.size.0 c.requires.size.1 (omega arith) in
    rw (to_z-of_z w64 s f, to_z-of_z w64 c.in_ok-left.left h, to_z-of_z w64 (s -ℤ c.in_ok-left.left) d)
    (search rules, (search rules, (omega (arith, c.requires.low), ((omega (arith, c.requires.size.0), in_size), (put.0, r ∙ ap Ok (sym put.1))))))

pub returns : goal.returns
returns g t c =
    let v = tree_view c.args.self.now in
    let some : 0 < c.args.level = omega (arith, c.if-level-eq0.false) in
    let n = half_len c.args.level some in
    let p = pow_pos (c.args.level - 1) in
    let l = c.split_at_mut-low.ensures.front_len in
    let m = c.split_at_mut-low.ensures.back_len in
    let low : length c.spread.new.minutes ≡ 2 ^ (c.args.level - 1) = c.spread.auto.minutes ∙ (put_first c.split_at_mut-low.result.0.now _ (2 ^ (c.args.level - 1)) (omega (arith, c.requires.many)) p).0 in
    let high : length c.spread-2.new.minutes ≡ 2 ^ (c.args.level - 1) = c.spread-2.auto.minutes ∙ (put_first c.split_at_mut-low.result.1.now _ (2 ^ (c.args.level - 1)) (omega (arith, c.requires.many)) p).0 in
    halves_read (sum_in v 0) (c.args.index * 2 ^ c.args.level) (2 * c.args.index * 2 ^ (c.args.level - 1)) ((2 * c.args.index + 1) * 2 ^ (c.args.level - 1)) (2 ^ (c.args.level - 1)) (2 ^ c.args.level)
    (half_start c.args.index c.args.level some) (half_next c.args.index c.args.level some) (half_len c.args.level some)
    c.spread.new.minutes low
    (subst (λ r. Spread (sum_in v 0) (2 * c.args.index * 2 ^ (c.args.level - 1)) (2 ^ (c.args.level - 1)) r c.spread.new.minutes) c.in_ok-spread.was c.spread.ensures)
    c.spread-2.new.minutes c.spread-2.result high c.spread-2.ensures
