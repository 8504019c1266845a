use Rattle.std.proofs.Common.{◌≡◌, pos, min, refl, ap, ◌∙◌}
use Rattle.haar.specs.Tiles.{tiles_before, cell_count}
use Rattle.store.specs.SparseMeaning.{nearest}
use Rattle.gymlink.proofs.pile.Goals as goal

-- three bands have 4,368 cells, so that nothing is cut
pub returns-clause-room : goal.returns-clause-room
unfolding tiles_before
returns-clause-room c =
    let cells : cell_count 3 ≡ 4368 = refl in
    c.new-2.ensures.alike.same.room ∙ c.new.ensures.room
    ∙ ap (λ n. pos (nearest 1 (min 1024 n) 1024)) (ap cell_count c.new.ensures.bands ∙ cells)
