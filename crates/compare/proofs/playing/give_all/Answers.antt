use Rattle.std.proofs.Common.{◌<◌, length, get_or, pos, ◌∙◌, w64, SFits, rules}
use Rattle.std.proofs.lemmas.Int.{to_z-of_z}
use Rattle.compare.proofs.Made.{given}
use Rattle.compare.proofs.playing.give_all.Goals as goal

pub loop-place-preserved : goal.loop-place-preserved
loop-place-preserved c =
    let i = c.loop-place.invariant in
    let inside : c.loop-place.place < length c.loop-place.values = search rules in
    let f : SFits w64 (get_or c.loop-place.values c.loop-place.place (pos 0)) = search rules in
    let r = given c.loop-place.load c.in-Ok.next _ c.loop-place.values c.value.new.buffer c.loop-place.place i.filled.taken inside (to_z-of_z w64 _ f) c.in-Ok.ensures in
    record { kept = r.0 ∙ i.kept; filled = record { level = r.1.level ∙ i.filled.level; index = r.1.index ∙ i.filled.index; taken = r.1.taken } }
