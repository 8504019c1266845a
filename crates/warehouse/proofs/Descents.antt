-- Going down from a tile's sum, one level at a time.
use Rattle.std.proofs.Common.{◌≡◌, ℕ, zero, suc, ◌+◌, ◌-◌, ◌*◌, ◌/◌, ◌^◌, ◌<◌, ◌≤◌, true, ℤ, nat_abs, is_some, Some, Ok, Err, Option, Result, sym, ap, ◌∙◌, subst, ap₂, add-zero, div-one, arith, pow_mono, shr_lt}
use Rattle.haar.specs.Places.{InTree, DifferenceCell, SumCell}
use Rattle.haar.proofs.Split.{shift_suc}
use Rattle.warehouse.specs.declared.fault.Fault.{Fault}
use Rattle.warehouse.specs.Read.{◌then◌, sight, beside, lower, descend, start, first_cell, read}
use Rattle.warehouse.proofs.Halves.{Small, sight_small, halve_small}

-- the cell beside S(j,k)
pub cell_beside : (T T' j k cell : ℕ) (r : Option ℕ) → T' ≡ T → InTree T (suc j) (k / 2) → DifferenceCell T' (j + 1) (k / 2) r → r ≡ Some cell → cell ≡ beside T j k
cell_beside T T' j k cell r e tree is q =
    let a : j + 1 ≡ suc j = omega arith in
    let is = subst (λ t. DifferenceCell t (suc j) (k / 2) r) e (subst (λ l. DifferenceCell T' l (k / 2) r) a is) in
    let u = is.there tree (omega arith) in
    cc

-- the interval (j,k) at size n, and the ones over it
module _ (T n j k : ℕ) (few : T ≤ 5) (low : j ≤ n) (fits : n ≤ 4 * T) (inside : k < 2 ^ (n - j)) where
  pub tree_here : InTree T j k
  tree_here = let p : 2 ^ (n - j) ≤ 2 ^ (4 * T - j) = pow_mono {i = n - j} {j = 4 * T - j} (omega arith) in record { few = few; low = omega arith; inside = omega arith }

  pub tree_over : (l : ℕ) → l < start n j - j → InTree T (suc (j + l)) (k / 2 ^ l / 2)
  tree_over l h =
      let q : n - j ≡ n - suc (j + l) + suc l = omega arith in
      let a : k / 2 ^ suc l < 2 ^ (n - suc (j + l)) = shr_lt (n - suc (j + l)) (suc l) (rw (← q) inside) in
      let p : 2 ^ (n - suc (j + l)) ≤ 2 ^ (4 * T - suc (j + l)) = pow_mono {i = n - suc (j + l)} {j = 4 * T - suc (j + l)} (omega arith) in
      record { few = few; low = omega arith; inside = omega (arith, shift_suc k l) }

-- the first cell is there
module _ (T T' j k : ℕ) (r : Option ℕ) (e : T' ≡ T) (tree : InTree T j k) (is : SumCell T' j k r) where
  pub first_is : r ≡ Some (first_cell T j k)
  first_is = (subst (λ t. SumCell t j k r) e is).there tree

  pub first_there : is_some r ≡ true
  first_there = ap is_some first_is

  pub first_found : (cell : ℕ) → r ≡ Some cell → cell ≡ first_cell T j k
  first_found cell q = let u = first_is in cc

then_small : (r : Result ℤ Fault) (go : ℤ → Result ℤ Fault) → Small r → ((v : ℤ) → nat_abs v ≤ 2 ^ 56 → Small (go v)) → Small (◌then◌ r go)
then_small (Ok v) go a b = b v a
then_small (Err f) go a b = tt

pub lower_small : (T : ℕ) (look : ℕ → Result ℤ Fault) (j k : ℕ) (s : ℤ) → nat_abs s ≤ 2 ^ 56 → Small (lower T look j k s)
unfolding lower
lower_small T look j k s h = then_small _ _ (sight_small _ (look (beside T j k))) (λ v b. halve_small (beside T j k) k s v h b)

descend_small : (T : ℕ) (look : ℕ → Result ℤ Fault) (first j k d : ℕ) → Small (descend T look first j k d)
unfolding descend
descend_small T look first j k zero = sight_small _ (look first)
descend_small T look first j k (suc d) = then_small _ _ (descend_small T look first (suc j) (k / 2) d) (lower_small T look j k)

pub read_small : (T n : ℕ) (look : ℕ → Result ℤ Fault) (j k : ℕ) → Small (read T n look j k)
unfolding read
read_small T n look j k = descend_small T look (first_cell T j k) j k (start n j - j)

-- the reading of S(j + l, k / 2^l), on the way to S(j,k)
abbrev pub on_the_way : ℕ → ℕ → (ℕ → Result ℤ Fault) → ℕ → ℕ → ℕ → Result ℤ Fault
on_the_way T n look j k l = descend T look (first_cell T j k) (j + l) (k / 2 ^ l) (start n j - j - l)

module _ (T n : ℕ) (look : ℕ → Result ℤ Fault) (j k : ℕ) where
  -- at its start, in the first cell
  pub way_first : (cell l : ℕ) → cell ≡ first_cell T j k → l ≡ start n j - j → sight cell (look cell) ≡ on_the_way T n look j k l
  unfolding descend
  way_first cell l q e =
      let z : 0 ≡ start n j - j - l = omega arith in
      ap (λ c. sight c (look c)) q ∙ ap (descend T look (first_cell T j k) (j + l) (k / 2 ^ l)) z

  -- one level down
  pub way_step : (l : ℕ) → l < start n j - j → ◌then◌ (on_the_way T n look j k (suc l)) (lower T look (j + l) (k / 2 ^ l)) ≡ on_the_way T n look j k l
  unfolding descend
  way_step l h =
      let a : suc (start n j - j - suc l) ≡ start n j - j - l = omega arith in
      let b : j + suc l ≡ suc (j + l) = omega arith in
      ap₂ (λ x y. ◌then◌ (descend T look (first_cell T j k) x y (start n j - j - suc l)) (lower T look (j + l) (k / 2 ^ l))) b (shift_suc k l)
      ∙ ap (descend T look (first_cell T j k) (j + l) (k / 2 ^ l)) a

  -- at its end
  pub way_end : on_the_way T n look j k 0 ≡ read T n look j k
  unfolding read
  way_end =
      let a : start n j - j - 0 ≡ start n j - j = omega arith in
      ap₂ (λ x y. descend T look (first_cell T j k) x y (start n j - j - 0)) (add-zero j) (div-one k) ∙ ap (descend T look (first_cell T j k) j k) a

  -- a fault on the way is the reading's
  pub way_lost : (l : ℕ) (f : Fault) → l ≤ start n j - j → Err f ≡ on_the_way T n look j k l → Err f ≡ read T n look j k
  way_lost zero f h e = e ∙ way_end
  way_lost (suc l) f h e = way_lost l f (omega arith) (ap (λ r. ◌then◌ r (lower T look (j + l) (k / 2 ^ l))) e ∙ way_step l h)

  -- one level down from the sum s
  pub way_down : (b : ℕ) (s : ℤ) → 0 < b → b ≤ start n j - j → Ok s ≡ on_the_way T n look j k b → lower T look (j + (b - 1)) (k / 2 ^ (b - 1)) s ≡ on_the_way T n look j k (b - 1)
  way_down b s p h e =
      let a : b ≡ suc (b - 1) = omega arith in
      ap (λ r. ◌then◌ r (lower T look (j + (b - 1)) (k / 2 ^ (b - 1)))) (e ∙ ap (on_the_way T n look j k) a) ∙ way_step (b - 1) (omega arith)

  pub way_small : (l : ℕ) (s : ℤ) → Ok s ≡ on_the_way T n look j k l → nat_abs s ≤ 2 ^ 56
  way_small l s e = subst Small (sym e) (descend_small T look (first_cell T j k) (j + l) (k / 2 ^ l) (start n j - j - l))
