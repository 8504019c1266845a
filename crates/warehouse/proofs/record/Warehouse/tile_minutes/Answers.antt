use Rattle.std.proofs.Common.{◌≡◌, ℕ, ◌+◌, ◌-◌, ◌*◌, ◌%◌, ◌^◌, ◌<◌, ◌≤◌, min, ◌∷◌, ◌++◌, length, get_or, w64, to_z, of_z, replicate, drop, pos, Ok, Err, refl, sym, ap, ◌∙◌, subst, pow_pos, length-append, length-drop, arith, rules}
use Rattle.std.proofs.lemmas.List.{length-take-le}
use Rattle.std.proofs.lemmas.Nat.{one_shl}
use Rattle.std.proofs.lemmas.Result.{err_from_is_err_and}
use Rattle.warehouse.specs.Ask.{sum_in}
use Rattle.warehouse.specs.Tile.{Spread, TileMinutes}
use Rattle.warehouse.specs.Tree.{tree_view}
use Rattle.warehouse.specs.View.{View, known, unmarked}
use Rattle.warehouse.proofs.Sixteen.{few, all_past, tile_lost, sum_lost, tile_read, zeros_after}
use Rattle.warehouse.proofs.record.Warehouse.tile_minutes.Goals as goal

pub returns-then-tile-tree : goal.returns-then-tile-tree
returns-then-tile-tree g c =
    let t = c.tree-tree.result in
    let e : tree_view t ≡ unmarked (g.S.Store.means c.args.self.now.store) (known g.S.Store.means c.args.self.now).size = λ i. record { size = c.tree-tree.ensures.size i; mark = 0; store = g.S.Store.means (c.tree-tree.ensures.store i) } in
    let top : c.min-top.result ≡ min t.size 4 = omega (arith, c.min-top.ensures) in
    let s = one_shl (t.size - c.min-top.result) 32 (omega (arith, t.most)) in
    let d = ap (λ m. 2 ^ (t.size - m)) top in
    subst (λ v. TileMinutes v c.args.tile (Ok (replicate 16 (pos 0)))) e (refl, all_past (tree_view t) c.args.tile (omega (arith, c.if-tile-tree.true)))

pub returns-in_err-minutes : goal.returns-in_err-minutes
returns-in_err-minutes g c =
    let t = c.tree-tree.result in
    let e : tree_view t ≡ unmarked (g.S.Store.means c.args.self.now.store) (known g.S.Store.means c.args.self.now).size = λ i. record { size = c.tree-tree.ensures.size i; mark = 0; store = g.S.Store.means (c.tree-tree.ensures.store i) } in
    let top : c.min-top.result ≡ min t.size 4 = omega (arith, c.min-top.ensures) in
    let s = one_shl (t.size - c.min-top.result) 32 (omega (arith, t.most)) in
    let d = ap (λ m. 2 ^ (t.size - m)) top in
    let p = err_from_is_err_and c.from_residual.result c.from_residual.ensures.1 in
    rw (p.1, p.2)
    (subst (λ v. TileMinutes v c.args.tile (Err c.in_err-minutes.field-0.0)) e
    (sum_lost (tree_view t) c.args.tile (omega (arith, c.if-tile-tree.false)) c.in_err-minutes.field-0.0 (ap (λ m. sum_in (tree_view t) m c.args.tile) (sym top) ∙ sym c.sum.ensures ∙ c.in_err-minutes.was)))

pub slice_bounds-minutes-end : goal.slice_bounds-minutes-end
slice_bounds-minutes-end g c =
    let top : c.min-top.result ≡ min c.tree-tree.result.size 4 = omega (arith, c.min-top.ensures) in
    let x : 1 * 2 ^ c.min-top.result % 2 ^ 64 ≡ 2 ^ min c.tree-tree.result.size 4 = one_shl c.min-top.result 64 (omega arith) ∙ ap (λ m. 2 ^ m) top in
    let l = few c.tree-tree.result.size in
    omega arith

pub slice_bounds-spread-end : goal.slice_bounds-spread-end
slice_bounds-spread-end g c =
    let top : c.min-top.result ≡ min c.tree-tree.result.size 4 = omega (arith, c.min-top.ensures) in
    let x : 1 * 2 ^ c.min-top.result % 2 ^ 64 ≡ 2 ^ min c.tree-tree.result.size 4 = one_shl c.min-top.result 64 (omega arith) ∙ ap (λ m. 2 ^ m) top in
    let l = few c.tree-tree.result.size in
    sym (length-take-le _ _ (omega arith))

pub spread-requires-clause-many : goal.spread-requires-clause-many
spread-requires-clause-many g c =
    let top : c.min-top.result ≡ min c.tree-tree.result.size 4 = omega (arith, c.min-top.ensures) in
    let x : 1 * 2 ^ c.min-top.result % 2 ^ 64 ≡ 2 ^ min c.tree-tree.result.size 4 = one_shl c.min-top.result 64 (omega arith) ∙ ap (λ m. 2 ^ m) top in
    let l = few c.tree-tree.result.size in
    length-take-le _ _ (omega arith) ∙ one_shl c.min-top.result 64 (omega arith)

pub returns-in_err-spread : goal.returns-in_err-spread
returns-in_err-spread g c =
    let t = c.tree-tree.result in
    let e : tree_view t ≡ unmarked (g.S.Store.means c.args.self.now.store) (known g.S.Store.means c.args.self.now).size = λ i. record { size = c.tree-tree.ensures.size i; mark = 0; store = g.S.Store.means (c.tree-tree.ensures.store i) } in
    let top : c.min-top.result ≡ min t.size 4 = omega (arith, c.min-top.ensures) in
    let s = one_shl (t.size - c.min-top.result) 32 (omega (arith, t.most)) in
    let d = ap (λ m. 2 ^ (t.size - m)) top in
    let p = err_from_is_err_and c.from_residual-in_err-spread.result c.from_residual-in_err-spread.ensures.1 in
    rw (p.1, p.2)
    (subst (λ v. TileMinutes v c.args.tile (Err c.in_err-spread.field-0.0)) e
    (tile_lost (tree_view t) c.args.tile (omega (arith, c.if-tile-tree.false)) c.in_err-spread.field-0.0
    (subst (λ m. Spread (sum_in (tree_view t) 0) (c.args.tile * 2 ^ m) (2 ^ m) (Err c.in_err-spread.field-0.0) c.spread.new.minutes) top
    (subst (λ r. Spread (sum_in (tree_view t) 0) (c.args.tile * 2 ^ c.min-top.result) (2 ^ c.min-top.result) r c.spread.new.minutes) c.in_err-spread.was c.spread.ensures))))

pub returns : goal.returns
returns g c =
    let t = c.tree-tree.result in
    let e : tree_view t ≡ unmarked (g.S.Store.means c.args.self.now.store) (known g.S.Store.means c.args.self.now).size = λ i. record { size = c.tree-tree.ensures.size i; mark = 0; store = g.S.Store.means (c.tree-tree.ensures.store i) } in
    let top : c.min-top.result ≡ min t.size 4 = omega (arith, c.min-top.ensures) in
    let s = one_shl (t.size - c.min-top.result) 32 (omega (arith, t.most)) in
    let d = ap (λ m. 2 ^ (t.size - m)) top in
    let x : 1 * 2 ^ c.min-top.result % 2 ^ 64 ≡ 2 ^ min t.size 4 = one_shl c.min-top.result 64 (omega arith) ∙ ap (λ m. 2 ^ m) top in
    let l = few t.size in
    let first = to_z w64 (of_z w64 c.in_ok-minutes.field-0) in
    let rest = drop (1 * 2 ^ c.min-top.result % 2 ^ 64) (first ∷ replicate 15 (pos 0)) in
    let many : length c.spread.new.minutes ≡ 2 ^ min t.size 4 = c.spread.auto.minutes ∙ length-take-le _ _ (omega arith) ∙ x in
    let sixteen : length (c.spread.new.minutes ++ rest) ≡ 16 = omega (arith, length-append c.spread.new.minutes rest, length-drop (1 * 2 ^ c.min-top.result % 2 ^ 64) (first ∷ replicate 15 (pos 0))) in
    subst (λ v. TileMinutes v c.args.tile (Ok (c.spread.new.minutes ++ rest))) e (
      sixteen,
      tile_read (tree_view t) c.args.tile (omega (arith, c.if-tile-tree.false)) c.spread.new.minutes rest many
          (subst (λ m. Spread (sum_in (tree_view t) 0) (c.args.tile * 2 ^ m) (2 ^ m) (Ok tt) c.spread.new.minutes) top
          (subst (λ r. Spread (sum_in (tree_view t) 0) (c.args.tile * 2 ^ c.min-top.result) (2 ^ c.min-top.result) r c.spread.new.minutes) c.in_ok-spread.was c.spread.ensures))
          (λ i ge lt. ap (λ m. get_or (drop m (first ∷ replicate 15 (pos 0))) (i - 2 ^ min t.size 4) (pos 0)) x ∙ zeros_after first (2 ^ min t.size 4) i (pow_pos (min t.size 4)) ge lt)
          sixteen,
    )
