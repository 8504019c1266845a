-- A chunk's buffer while it is transformed, and after.
use Rattle.std.proofs.Common.{◌≡◌, ℕ, ◌*◌, ◌^◌, ◌≤◌, List, length, ℤ, sym, ap, ◌∙◌, subst, arith, pow_mono}
use Rattle.loads.specs.Transform.{haar, unhaar, Within}
use Rattle.loads.specs.Share.{Ready}
use Rattle.loads.proofs.Inverse.{within_haar, within_more, back_haar}

module _ (m : ℕ) (zs ys : List ℤ) (l : length zs ≡ 2 ^ m) (e : ys ≡ haar m zs) where
  -- the values come back
  pub back : unhaar m ys ≡ zs
  back = ap (unhaar m) e ∙ back_haar m zs l

  module _ (w : Within (2 ^ 31) zs) where
    pub ready : Ready m ys
    ready = record { many = ap length back ∙ l; image = e ∙ ap (haar m) (sym back); small = subst (Within (2 ^ 31)) (sym back) w }

    pub small : m ≤ 12 → Within (2 ^ 61) ys
    small h =
        let big : 2 ^ m ≤ 2 ^ 12 = pow_mono h in
        subst (Within (2 ^ 61)) (sym e) (within_more (2 ^ 31 * 2 ^ m) (2 ^ 61) (haar m zs) (omega arith) (within_haar m (2 ^ 31) zs l w))
