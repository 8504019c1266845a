-- A load that has checked its touched cells below `from`.
use Rattle.std.proofs.Common.{◌≡◌, ℕ, ◌+◌, ◌-◌, ◌*◌, ◌<◌, ◌≤◌, ℤ, ◌+ℤ◌, sym, refl, ◌∙◌, subst, ⊎_elim, arith}
use Rattle.std.proofs.lemmas.Bool.{cases_eq}
use Rattle.haar.specs.declared.coefficient.Coefficient.{Coefficient}
use Rattle.haar.specs.Tiles.{cell_number, cell_count}
use Rattle.haar.specs.Haar.{value}
use Rattle.haar.specs.Load.{Loaded}
use Rattle.loads.specs.Reach.{Meets}
use Rattle.haar.proofs.Numbers.{one_coefficient, inside_below}
use Rattle.haar.proofs.Places.{before_most}
use Rattle.store.specs.Meaning.{weight}
use Rattle.loads.specs.Loads.{fresh, Small, Clear, Large}
use Rattle.loads.specs.Passes.{Seen}
use Rattle.loads.proofs.Fresh.{fresh_step}

pub seen_start : (T n m p : ℕ) (g x : ℕ → ℤ) → Seen T n m p g x 0 0
unfolding fresh
seen_start T n m p g x = record { below = omega arith; few = omega arith; clear = λ s me l. absurd (omega arith); starts = λ y load. refl }

pub used_most : (z : ℤ) → weight z ≤ 1
used_most z = grind arith

module _ (T n m p : ℕ) (g x : ℕ → ℤ) (some : 1 ≤ T) (held : n ≤ 4 * T) (from k : ℕ) (seen : Seen T n m p g x from k) where
  module _ (s : Coefficient) (me : Meets n m p s) (at : cell_number T s ≡ from) where
    pub seen_in : from < cell_count T
    seen_in = subst (λ c. c < cell_count T) at (inside_below T n s some held me.inside)

    pub seen_large : (Small (x from +ℤ value n g s) → ⊥) → Large T n m p g x from
    seen_large over = record { coefficient = s; meets = me; numbered = at; over = over; lowest = seen.clear }

    pub seen_step : (k' : ℕ) → Small (x from +ℤ value n g s) → k' ≡ k + (weight (x from +ℤ value n g s) - weight (x from)) → Seen T n m p g x (from + 1) k'
    seen_step k' small e =
        record { below = omega (arith, seen_in); few = omega (arith, used_most (x from +ℤ value n g s), seen.few); clear = clear; starts = starts }
      where
        clear : Clear T n m p g x (from + 1)
        clear s' me' l =
            ⊎_elim
            (λ (q : cell_number T s' ≡ from).
            let same : s ≡ s' = one_coefficient T n s s' some held me.inside me'.inside (at ∙ sym q) in
            subst (λ z. Small (x (cell_number T z) +ℤ value n g z)) same (subst (λ c. Small (x c +ℤ value n g s)) (sym at) small))
            (λ (ne : cell_number T s' ≡ from → ⊥). seen.clear s' me' (omega arith))
            (cases_eq (cell_number T s') from)

        starts : (y : ℕ → ℤ) → Loaded T n m p g x y → fresh x y (from + 1) ≡ k'
        starts y load = let a = fresh_step T n m p g x y load s from me at in let b = seen.starts y load in omega arith

-- cells are few
pub count_most : (T : ℕ) → T ≤ 5 → cell_count T ≤ 1118480
count_most T h = omega (arith, before_most T h)
