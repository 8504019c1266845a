-- Fewer bands than fit fit too.
use Rattle.std.proofs.Common.{◌≡◌, ℕ, zero, suc, ◌+◌, ◌-◌, ◌≤◌, min, refl, ap, arith}
use Rattle.haar.specs.Tiles.{tiles_before, cell_count}
use Rattle.haar.proofs.Numbers.{before_rises}
use Rattle.flat.specs.Slice.{Greatest, GreatestUpTo}

rises : (d e T : ℕ) → T ≡ d + e → tiles_before d ≤ tiles_before T
rises d zero T q = let same : T ≡ d = omega arith in let is = ap tiles_before same in omega arith
rises d (suc e) T q =
    let same : T ≡ suc (d + e) = omega arith in
    let is = ap tiles_before same in
    let more = before_rises (d + e) in
    let less = rises d e (d + e) refl in
    omega arith

pub fewer_fit : (d T n : ℕ) → d ≤ T → cell_count T ≤ n → cell_count d ≤ n
fewer_fit d T n few fits =
    let r = rises d (T - d) T (omega arith) in
    omega arith

-- the greatest number, cut to the most
pub greatest_cut : (most n d T : ℕ) → d ≡ min T most → Greatest n T → GreatestUpTo (min 5 most) n d
greatest_cut most n d T e g = record {
  few = omega (arith, g.few);
  fits = fewer_fit d T n (omega arith) g.fits;
  greatest = λ k few fits. let below = g.greatest k (omega arith) fits in omega arith;
}
