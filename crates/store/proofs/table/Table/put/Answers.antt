use Rattle.std.proofs.Common.{◌≡◌, pos, arith, w64, SFits}
use Rattle.std.proofs.lemmas.Int.{ints, to_z-of_z}
use Rattle.store.proofs.Lookups.{gap_lacks}
use Rattle.store.proofs.Storing.{puts_full, puts_held}
use Rattle.store.proofs.Tidy.{tidy}
use Rattle.store.proofs.table.Table.put.Goals as goal

pub returns-in-Err-clause-puts : goal.returns-in-Err-clause-puts
returns-in-Err-clause-puts g c =
    let some : c.args.value ≡ pos 0 → ⊥ = λ e. omega (arith, ints) in
    puts_full _ _ _ _ _ (gap_lacks _ _ _ _ c.in-Err.ensures) some (omega arith)

pub returns-in-Ok-clause-puts : goal.returns-in-Ok-clause-puts
returns-in-Ok-clause-puts g c =
    let f : SFits w64 c.args.value = c.ranges.value in
    puts_held _ _ _ _ _ _ _ _ (tidy c.args.self.now) c.in-Ok.ensures (simp to_z-of_z at c.change.ensures)
