-- Counting the cells that go from zero to nonzero, and a load's cells.
use Rattle.std.proofs.Common.{◌≡◌, ℕ, zero, suc, ◌+◌, ◌-◌, ◌<◌, ◌≤◌, ℤ, ◌+ℤ◌, ap, subst, ⊎_elim, arith}
use Rattle.std.proofs.lemmas.Bool.{cases_lt}
use Rattle.haar.specs.declared.coefficient.Coefficient.{Coefficient}
use Rattle.haar.specs.Tiles.{cell_number}
use Rattle.haar.specs.Haar.{value}
use Rattle.haar.specs.Load.{Loaded}
use Rattle.loads.specs.Reach.{Meets}
use Rattle.store.specs.Meaning.{weight}
use Rattle.loads.specs.Loads.{fresh}

pub fresh_rises : (x y : ℕ → ℤ) (a b : ℕ) → a ≤ b → fresh x y a ≤ fresh x y b
unfolding fresh
fresh_rises x y a zero h = let e : a ≡ 0 = omega arith in rw e (omega arith)
fresh_rises x y a (suc b) h =
    ⊎_elim (λ (lt : b < a). let e : a ≡ suc b = omega arith in rw e (omega arith))
    (λ (le : a ≤ b). let i = fresh_rises x y a b le in omega arith)
    (cases_lt b a)

module _ (T n m p : ℕ) (g x y : ℕ → ℤ) (load : Loaded T n m p g x y) where
  pub fresh_step : (s : Coefficient) (cell : ℕ) → Meets n m p s → cell_number T s ≡ cell → fresh x y (cell + 1) ≡ fresh x y cell + (weight (x cell +ℤ value n g s) - weight (x cell))
  unfolding fresh
  fresh_step s cell me q =
      let a : y cell ≡ x cell +ℤ value n g s = subst (λ c. y c ≡ x c +ℤ value n g s) q (load.added s me.inside me.touched) in
      let u = ap weight a in
      let z : cell + 1 ≡ suc cell = omega arith in
      let e : fresh x y (cell + 1) ≡ fresh x y (suc cell) = ap (fresh x y) z in
      omega arith
