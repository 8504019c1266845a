-- The worked figures, computed from the definitions.
use Rattle.std.proofs.Common.{◌≡◌, ℕ, zero, suc, ◌<◌, Bool, true, false, ◌&&◌, eqb, ℤ, pos, negsuc, sym, refl, ap, ◌∙◌, ⊎_elim, arith}
use lib.Ieee.{round}
use Rattle.std.proofs.lemmas.Bool.Decides.{nat_tests}
use Rattle.std.proofs.lemmas.Bool.{cases_eq}
use Rattle.haar.specs.Tree.{plain_sum}
use Rattle.haar.specs.Tiles.{tiles_before}
use Rattle.haar.specs.Count.{touched_coefficients}
use Rattle.haar.specs.Cells.{haar_cells}
use Rattle.haar.specs.Figures.{worked_minutes, worked_cells, lookup, Figures}
use Rattle.haar.proofs.Haar.{one_haar}
use Rattle.haar.proofs.Computing.{cells_are}

-- two numbers are the same
same : ℤ → ℤ → Bool
same (pos a) (pos b) = eqb a b
same (pos a) (negsuc b) = false
same (negsuc a) (pos b) = false
same (negsuc a) (negsuc b) = eqb a b

same_is : (x y : ℤ) → same x y ≡ true → x ≡ y
unfolding same
same_is (pos a) (pos b) h = ap pos (grind (arith, nat_tests))
same_is (pos a) (negsuc b) h = absurd (let z : ◌≡◌ {A = ℕ} 0 1 = cc in omega arith)
same_is (negsuc a) (pos b) h = absurd (let z : ◌≡◌ {A = ℕ} 0 1 = cc in omega arith)
same_is (negsuc a) (negsuc b) h = ap negsuc (grind (arith, nat_tests))

-- two rows of numbers are the same below b
alike : (ℕ → ℤ) → (ℕ → ℤ) → ℕ → Bool
alike x y zero = true
alike x y (suc b) = same (x b) (y b) && alike x y b

both : (a b : Bool) → a && b ≡ true → (a ≡ true) × (b ≡ true)
both true true h = (refl, refl)
both true false h = absurd (let z : ◌≡◌ {A = ℕ} 0 1 = cc in omega arith)
both false b h = absurd (let z : ◌≡◌ {A = ℕ} 0 1 = cc in omega arith)

alike_is : (x y : ℕ → ℤ) (b : ℕ) → alike x y b ≡ true → (c : ℕ) → c < b → x c ≡ y c
unfolding alike
alike_is x y zero h c l = absurd (omega arith)
alike_is x y (suc b) h c l =
    let (here, below) = both (same (x b) (y b)) (alike x y b) h in
    ⊎_elim (λ (e : c ≡ b). ap x e ∙ same_is (x b) (y b) here ∙ ap y (sym e)) (λ ne. alike_is x y b below c (omega arith)) (cases_eq c b)

tested : alike (haar_cells 3 5 worked_minutes) (lookup worked_cells) 4368 ≡ true
unfolding alike same haar_cells touched_coefficients tiles_before plain_sum
tested = refl

pub figures : Figures
unfolding tiles_before plain_sum round
figures =
    record {
      counts = (refl, refl, refl, refl, refl, refl);
      written = (refl, refl, refl, refl, refl, refl);
      cells = λ x h c l.
          one_haar 3 5 worked_minutes worked_minutes x (haar_cells 3 5 worked_minutes) (omega arith) (λ i. refl) h (cells_are 3 5 worked_minutes (omega arith) (omega arith)) c l
          ∙ alike_is (haar_cells 3 5 worked_minutes) (lookup worked_cells) 4368 tested c l;
      trend = refl;
    }
