use Rattle.std.proofs.Common.{◌≡◌, ◌≢◌, ◌<◌, pos, Ok, refl, arith, w64, SFits, rules}
use Rattle.std.proofs.lemmas.Int.{ints, to_z-of_z}
use Rattle.haar.specs.Tiles.{cell_count}
use Rattle.holdback.proofs.Calls.{written_zero, written_nonzero}
use Rattle.holdback.proofs.layer.HoldBackStore.write.Goals as goal

pub returns-then-value-eq0 : goal.returns-then-value-eq0
returns-then-value-eq0 g c =
    let h = c.args.self.now in
    let inside : c.args.cell < cell_count (g.S.Store.means h.below).bands = search rules in
    let z : c.args.value ≡ pos 0 = omega (arith, ints) in
    let done = written_zero g.S.Store.means g.S.Store.puts h (record { below = c.write.new.self; held = c.remove.new.self }) c.args.cell c.args.value _ inside z c.remove.ensures c.write.ensures.writes c.write.ensures.puts in
    record { writes = done.writes; puts = done.goes; refused = done.refused }

pub returns-in-Ok : goal.returns-in-Ok
returns-in-Ok g c =
    let h = c.args.self.now in
    let f : SFits w64 c.args.value = c.ranges.value in
    let inside : c.args.cell < cell_count (g.S.Store.means h.below).bands = search rules in
    let some : c.args.value ≢ pos 0 = λ e. omega (arith, ints) in
    let done = written_nonzero g.S.Store.means g.S.Store.puts h (record { below = h.below; held = c.put.new.self }) c.args.cell c.args.value _ (Ok tt) inside some (λ b. let no = (c.if-is_barred.ensures c.args.value some).1 b in cc) (simp to_z-of_z at c.in-Ok.ensures.puts) (refl, refl) in
    record { writes = done.writes; puts = done.goes; refused = done.refused }

pub returns-in-Err : goal.returns-in-Err
returns-in-Err g c =
    let h = c.args.self.now in
    let f : SFits w64 c.args.value = c.ranges.value in
    let inside : c.args.cell < cell_count (g.S.Store.means h.below).bands = search rules in
    let some : c.args.value ≢ pos 0 = λ e. omega (arith, ints) in
    let below = c.write-in-Err.ensures in
    let done = written_nonzero g.S.Store.means g.S.Store.puts h (record { below = c.write-in-Err.new.self; held = c.put.new.self }) c.args.cell c.args.value _ _ inside some (λ b. let no = (c.if-is_barred.ensures c.args.value some).1 b in cc) (simp to_z-of_z at c.in-Err.ensures.puts) (simp to_z-of_z at below.writes, simp to_z-of_z at below.puts) in
    record { writes = done.writes; puts = done.goes; refused = done.refused }
