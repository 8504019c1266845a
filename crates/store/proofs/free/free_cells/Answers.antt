use Rattle.std.proofs.Common.{◌≡◌, ◌-◌, pow_mono, inl, inr, arith, rules}
use Rattle.std.proofs.lemmas.Bool.{cases_lt}
use Rattle.std.proofs.lemmas.Int.{ints}
use Rattle.haar.specs.Tiles.{cell_count}
use Rattle.haar.proofs.Places.{before_most}
use Rattle.store.proofs.free.free_cells.Goals as goal

pub loop-digit-init : goal.loop-digit-init
loop-digit-init g c =
    let m = g.S.Store.means c.args.store.now in
    let l = c.bands.ensures.lawful in
    let many : c.cell_count.result ≡ cell_count m.bands = search rules in
    record { fits = λ some. absurd (omega arith); less = omega (arith, ints, l.room); small = omega (arith, before_most m.bands l.few) }

pub overflow_shl-more : goal.overflow_shl-more
overflow_shl-more g c =
    let d = c.loop-digit.digit in
    let small = c.loop-digit.invariant.small in
    elim (cases_lt (d - 1) 32) [ inl few ↦ few | inr many ↦ let p = pow_mono {i = 22} {j = d} (omega arith) in absurd (omega arith) ]
