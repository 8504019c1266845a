-- What the checks of growth find, and the step that growth makes.
use Rattle.std.proofs.Common.{◌≡◌, ℕ, zero, suc, ◌+◌, ◌-◌, ◌*◌, ◌/◌, ◌^◌, ◌<◌, ◌≤◌, min, Bool, true, false, cond, [], ◌∷◌, ℤ, pos, nat_abs, ◌≤ℤ◌, ◌<ℤ◌, Some, None, Ok, Option, Result, sym, refl, ap, ◌∙◌, ap₂, inl, inr, ⊎_elim, arith, pow_pos}
use native.Mathlib.Nat.{zero-div}
use lib.Signed.{lt_z}
use Rattle.std.proofs.lemmas.Int.{ints}
use Rattle.std.proofs.lemmas.Bool.{cases_lt, cases_eq, lt-ltb, le-ltb, le-leb, lt-leb}
use Rattle.haar.specs.declared.coefficient.Coefficient.TheVariants.{TileSum, Difference}
use Rattle.haar.specs.Tiles.{depth, tiles_before, cell_number, Inside}
use Rattle.haar.specs.Count.{bands_in_use}
use Rattle.haar.proofs.Numbers.{inside_below}
use Rattle.store.specs.Meaning.{weight}
use Rattle.warehouse.specs.declared.fault.Asked.TheVariants.{Size}
use Rattle.warehouse.specs.declared.fault.Fault.{Fault}
use Rattle.warehouse.specs.declared.fault.Fault.TheVariants.{Large, Full, Top}
use Rattle.warehouse.specs.Read.{look, limit}
use Rattle.warehouse.specs.View.{View}
use Rattle.loads.specs.Loads.{Small}
use Rattle.agreement.specs.Call.{grow, grown, refused}
use Rattle.agreement.specs.Check.{check, or, lesser, put, held, total_cell, total, fills, barred, bar, lowest_barred, newly, at, refusal}
use Rattle.agreement.specs.Reply.{or_refused}
use Rattle.agreement.specs.Step.{Unchanged, Raised, Step}
use Rattle.agreement.proofs.Limits.{next, hit, small_abs, abs_small}
use Rattle.agreement.proofs.Cells.{look_below}
use Rattle.agreement.proofs.Steps.{accepted, turned_down}

pub total_inside : (n : ℕ) → Inside n (TileSum (bands_in_use n - 1) 0)
total_inside n = (⊎_elim inl (λ ne. inr (omega arith)) (cases_eq (bands_in_use n - 1) 0), omega (arith, pow_pos n))

pub top_inside : (n : ℕ) → Inside (suc n) (Difference (suc n) 0)
top_inside n = (omega arith, omega arith, pow_pos (suc n - suc n))

tile_inside : (n : ℕ) → Inside (suc n) (TileSum (n / 4) 0)
tile_inside n = (inr (omega arith), omega (arith, pow_pos (suc n)))

-- the tile that comes in use stands before its difference
tile_first : (T n : ℕ) → cell_number T (TileSum (n / 4) 0) ≤ cell_number T (Difference (suc n) 0)
tile_first zero n = omega arith
tile_first (suc top) n =
    let b : (suc n - 1) / 4 ≡ n / 4 = ap (λ k. k / 4) (omega arith) in
    let e = ap (λ k. tiles_before (top - k)) b in
    let z = zero-div (2 ^ depth (suc n)) in
    omega arith

module _ (v : View) (below : v.size < 4 * v.store.bands) where
  abbrev T : ℕ
  T = v.store.bands

  abbrev n : ℕ
  n = v.size

  abbrev x : ℕ → ℤ
  x = v.store.cells

  abbrev L : ℕ → Result ℤ Fault
  L = look v.store

  abbrev sum : ℤ
  sum = x (total_cell T n)

  abbrev top : ℕ
  top = cell_number T (Difference (suc n) 0)

  abbrev tile : ℕ
  tile = cell_number T (TileSum (n / 4) 0)

  -- how many of the cells to write go from zero to nonzero
  abbrev started : ℕ
  started = (weight sum - weight (x top)) + cond (fills n) (weight sum - weight (x tile)) 0

  some : 1 ≤ T
  some = omega arith

  total_is : total T n L ≡ sum
  total_is = ap held (look_below v.store _ (inside_below T n _ some (omega arith) (total_inside n)))

  sees_top : L top ≡ Ok (x top)
  sees_top = look_below v.store _ (inside_below T (suc n) _ some below (top_inside n))

  sees_tile : L tile ≡ Ok (x tile)
  sees_tile = look_below v.store _ (inside_below T (suc n) _ some below (tile_inside n))

  abbrev lowest_in : Bool → ℤ → Option ℕ
  lowest_in b z = lowest_barred L (put top z ∷ cond b (put tile z ∷ []) [])

  abbrev newly_in : Bool → ℤ → ℕ
  newly_in b z = newly L (put top z ∷ cond b (put tile z ∷ []) [])

  -- a total too large bars every cell that it is written to
  lowest_large : (b : Bool) → limit < nat_abs sum → lowest_in b sum ≡ Some (cond b tile top)
  lowest_large true h =
      let e : barred (L top) sum ≡ true = ap (λ o. barred o sum) sees_top ∙ lt-ltb _ _ h in
      let f : barred (L tile) sum ≡ true = ap (λ o. barred o sum) sees_tile ∙ lt-ltb _ _ h in
      let q : min top tile ≡ tile = omega (arith, tile_first T n) in
      ap₂ (λ a b. cond a (Some (lesser top (cond b (Some tile) None))) (cond b (Some tile) None)) e f ∙ ap Some q
  lowest_large false h =
      let e : barred (L top) sum ≡ true = ap (λ o. barred o sum) sees_top ∙ lt-ltb _ _ h in
      ap (λ a. cond a (Some top) None) e

  lowest_small : (b : Bool) → nat_abs sum ≤ limit → lowest_in b sum ≡ None
  lowest_small true h =
      let e : barred (L top) sum ≡ false = ap (λ o. barred o sum) sees_top ∙ le-ltb _ _ h in
      let f : barred (L tile) sum ≡ false = ap (λ o. barred o sum) sees_tile ∙ le-ltb _ _ h in
      ap₂ (λ a b. cond a (Some (lesser top (cond b (Some tile) None))) (cond b (Some tile) None)) e f
  lowest_small false h =
      let e : barred (L top) sum ≡ false = ap (λ o. barred o sum) sees_top ∙ le-ltb _ _ h in
      ap (λ a. cond a (Some top) None) e

  newly_is : (b : Bool) → newly_in b sum ≡ (weight sum - weight (x top)) + cond b (weight sum - weight (x tile)) 0
  newly_is true =
      let e = ap (λ o. weight (held o)) sees_top in
      let f = ap (λ o. weight (held o)) sees_tile in
      omega arith
  newly_is false = ap (λ o. (weight sum - weight (held o)) + 0) sees_top

  -- the checks as functions of the total
  abbrev cell_checks : ℤ → Option Fault
  cell_checks z = or (at (λ c. bar (L c) c) (lowest_in (fills n) z)) (or (check (lt_z v.store.room (pos (newly_in (fills n) z))) Full) None)

  refusal_is : refusal v grow ≡ cell_checks sum
  unfolding refusal
  refusal_is = next _ _ (cell_checks sum) (ap (λ b. check b Top) (lt-leb _ _ below)) (ap cell_checks total_is)

  bar_is : (b : Bool) → bar (L (cond b tile top)) (cond b tile top) ≡ Large (cond b tile top)
  bar_is true = ap (λ o. bar o tile) sees_tile
  bar_is false = ap (λ o. bar o top) sees_top

  pub grow_large : (Small sum → ⊥) → refusal v grow ≡ Some (Large (cond (fills n) tile top))
  grow_large big =
      let h : limit < nat_abs sum = ⊎_elim (λ lt. lt) (λ (le : nat_abs sum ≤ limit). absurd (big (small_abs sum le))) (cases_lt limit (nat_abs sum)) in
      refusal_is ∙ hit _ _ (Large (cond (fills n) tile top)) (ap (at (λ c. bar (L c) c)) (lowest_large (fills n) h) ∙ ap Some (bar_is (fills n)))

  pub grow_full : Small sum → v.store.room <ℤ pos started → refusal v grow ≡ Some Full
  grow_full small over =
      refusal_is
      ∙ next _ _ (Some Full) (ap (at (λ c. bar (L c) c)) (lowest_small (fills n) (abs_small sum small)))
      (hit _ _ Full (ap (λ b. check b Full) (crowded (lt_z v.store.room (pos (newly_in (fills n) sum))) refl)))
    where
      crowded : (b : Bool) → lt_z v.store.room (pos (newly_in (fills n) sum)) ≡ b → lt_z v.store.room (pos (newly_in (fills n) sum)) ≡ true
      crowded true e = e
      crowded false e = absurd (omega (arith, ints, newly_is (fills n)))

  pub grow_none : Small sum → pos started ≤ℤ v.store.room → refusal v grow ≡ None
  grow_none small enough =
      refusal_is
      ∙ next _ _ None (ap (at (λ c. bar (L c) c)) (lowest_small (fills n) (abs_small sum small)))
      (next _ _ None (ap (λ b. check b Full) (roomy (lt_z v.store.room (pos (newly_in (fills n) sum))) refl)) refl)
    where
      roomy : (b : Bool) → lt_z v.store.room (pos (newly_in (fills n) sum)) ≡ b → lt_z v.store.room (pos (newly_in (fills n) sum)) ≡ false
      roomy false e = e
      roomy true e = absurd (omega (arith, ints, newly_is (fills n)))

pub grow_top : (v : View) → 4 * v.store.bands ≤ v.size → refusal v grow ≡ Some Top
unfolding refusal
grow_top v h = hit _ _ Top (ap (λ b. check b Top) (le-leb _ _ h))

pub grow_stayed : (v w : View) (f : Fault) → refusal v grow ≡ Some f → Unchanged v w → Step v grow (refused (record { fault = f; asked = Size v.size })) w
grow_stayed v w f e s = turned_down v grow _ w f e (sym (ap (λ o. or_refused o (Size v.size) (grown (suc v.size))) e)) s

pub grow_took : (v w : View) (answer : ℕ) → refusal v grow ≡ None → answer ≡ suc v.size → Raised v w → Step v grow (grown answer) w
grow_took v w answer e a r = accepted v grow (grown answer) w e (ap grown a ∙ sym (ap (λ o. or_refused o (Size v.size) (grown (suc v.size))) e)) r
