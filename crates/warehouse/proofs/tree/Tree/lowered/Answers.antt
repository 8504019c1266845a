use Rattle.std.proofs.Common.{sym, ap, ◌∙◌, ap₂, w64, SFits, rules}
use Rattle.std.proofs.lemmas.Int.{to_z-of_z}
use Rattle.warehouse.specs.Read.{◌then◌, look, sight, halve, lower}
use Rattle.warehouse.proofs.Descents.{cell_beside}
use Rattle.warehouse.proofs.tree.Tree.lowered.Goals as goal

pub returns : goal.returns
unfolding lower
returns g c =
    let m = g.S.Store.means c.args.self.now.store.now in
    let e = cell_beside m.bands _ _ c.args.index _ _ c.bands.ensures.is (record { few = c.bands.ensures.lawful.few; low = c.requires.tree.0; inside = c.requires.tree.1 }) c.difference_cell.ensures c.unwrap-cell.ensures in
    let f : SFits w64 c.in_ok-difference.difference = search rules in
    c.halved.ensures ∙ ap₂ (halve c.unwrap-cell.result c.args.index) (to_z-of_z w64 c.args.above c.ranges.above) (to_z-of_z w64 c.in_ok-difference.difference f)
    ∙ ap (λ r. ◌then◌ r (halve c.unwrap-cell.result c.args.index c.args.above)) (sym c.in_ok-difference.was ∙ c.seen.ensures)
    ∙ ap (λ b. ◌then◌ (sight b (look m b)) (halve b c.args.index c.args.above)) e
