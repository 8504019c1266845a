use Rattle.std.proofs.Common.{◌+◌, ◌-◌, ◌*◌, ◌/◌, ◌%◌, ◌^◌, slice_index_or, get_or, pos, ap, ◌∙◌, arith, w64, SFits, rules}
use native.Mathlib.Nat.{mod-eq_of_lt}
use Rattle.std.proofs.lemmas.Int.{to_z-of_z}
use Rattle.loads.proofs.Splits.{share_whole, share_row}
use Rattle.loads.proofs.Places.{table, places_few, row_below, tile_place, slot_row, place_below}
use Rattle.loads.proofs.Shares.{ready_length, ready_difference}
use Rattle.loads.proofs.share.ChunkTree.tile_share.Goals as goal

pub returns-then-slot-eq0 : goal.returns-then-slot-eq0
returns-then-slot-eq0 c = λ s me si.
    let r = c.args.self.now.reach in
    let f : SFits w64 c.sum_at.result = search rules in
    to_z-of_z w64 _ f ∙ c.sum_at.ensures ∙ share_whole r.level r.index _ r.size c.args.band c.args.at c.requires.0 r.low c.requires.1 c.if-slot-eq0.true s me si

pub overflow_add-result : goal.overflow_add-result
overflow_add-result c = omega (arith, c.ranges.at, places_few (c.args.at % 16) (omega arith))

pub offset_bounds-self-tile : goal.offset_bounds-self-tile
offset_bounds-self-tile c =
    let r = c.args.self.now.reach in
    let b = place_below r.level c.args.band c.args.at c.requires.0 c.requires.1 c.if-slot-eq0.false r.short in
    omega (arith, b)

pub bounds-self-tile : goal.bounds-self-tile
bounds-self-tile c =
    let r = c.args.self.now.reach in
    let b = place_below r.level c.args.band c.args.at c.requires.0 c.requires.1 c.if-slot-eq0.false r.short in
    omega (arith, b, ready_length _ _ c.args.self.now.ready)

pub returns : goal.returns
returns c = λ s me si.
    let r = c.args.self.now.reach in
    let hs = c.args.self.now.numbers.now in
    let (h, l, lo, hi) = slot_row c.args.at c.if-slot-eq0.false in
    let b = place_below r.level c.args.band c.args.at c.requires.0 c.requires.1 c.if-slot-eq0.false r.short in
    let e = mod-eq_of_lt {m = 18446744073709551616} (omega (arith, b)) ∙ tile_place r.level c.args.band c.args.at c.requires.0 c.requires.1 h l lo hi in
    let f : SFits w64 (get_or hs ((16 * (c.args.at / 16) + slice_index_or table (c.args.at % 16) 0) * 2 ^ (4 * c.args.band) % 18446744073709551616) (pos 0)) = search rules in
    to_z-of_z w64 _ f ∙ ap (λ x. get_or hs x (pos 0)) e
    ∙ ready_difference _ _ (4 * c.args.band + 4 - h) _ c.args.self.now.ready (omega arith) (omega (arith, c.requires.0)) (row_below r.level c.args.band c.args.at c.requires.0 c.requires.1 h l hi)
    ∙ share_row r.level r.index _ r.size c.args.band c.args.at c.requires.0 r.low c.requires.1 h l lo hi s me si
