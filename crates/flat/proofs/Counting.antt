-- Counting the zero cells of a slice.
use Rattle.std.proofs.Common.{◌≡◌, ℕ, zero, suc, ◌+◌, ◌<◌, ◌≤◌, Option, Some, None, ℤ, refl, sym, subst, ap, inl, inr, add-one, arith}
use Rattle.std.proofs.lemmas.Bool.{cases_eq, cases_lt}
use Rattle.std.specs.Option.{unwrap_or}
use Rattle.haar.specs.Tiles.{tiles_before, cell_count}
use Rattle.haar.proofs.Places.{before_most}
use Rattle.store.specs.Meaning.{weight, filled}
use Rattle.store.proofs.Counting.{weight_most}
use Rattle.flat.specs.Slice.{Greatest}

-- one cell more
pub filled_more : (x : ℕ → ℤ) (n : ℕ) → filled x (n + 1) ≡ filled x n + weight (x n)
unfolding filled
filled_more x n = rw add-one

-- without bands there are no cells
pub none_before : tiles_before 0 ≡ 0
unfolding tiles_before
none_before = refl

-- zero cells are few
pub zeros_most : (T empty full : ℕ) → T ≤ 5 → empty + full ≡ cell_count T → empty ≤ 1118480
zeros_most T empty full few e = omega (arith, before_most T few)

filled_most : (x : ℕ → ℤ) (n : ℕ) → filled x n ≤ n
unfolding filled
filled_most x zero = omega arith
filled_most x (suc n) = let m = filled_most x n in let w = weight_most (x n) in omega arith

-- a zero cell is counted
pub filled_less : (x : ℕ → ℤ) (c n : ℕ) → c < n → weight (x c) ≡ 0 → filled x n < n
unfolding filled
filled_less x c zero h z = absurd (omega arith)
filled_less x c (suc n) h z =
    elim (cases_eq c n) [
      | inl q ↦ let m = filled_most x n in let w = ap (λ k. weight (x k)) q in omega arith
      | inr ne ↦ let m = filled_less x c n (omega arith) z in let w = weight_most (x n) in omega arith
    ]

-- the first of the numbers of bands from 5 down whose cells fit, or none
pub greatest_found : (n : ℕ) (found : Option ℕ) (T : ℕ) → T ≡ unwrap_or found 0 → ((b : ℕ) → found ≡ Some b → (b ≤ 5) × (cell_count b ≤ n)) → ((b : ℕ) → found ≡ Some b → (d : ℕ) → b < d → d ≤ 5 → n < cell_count d)
    → (found ≡ None → (d : ℕ) → 0 < d → d ≤ 5 → n < cell_count d) → Greatest n T
greatest_found n (Some b) T e some rest none = subst (Greatest n) (sym e) (record { few = (some b refl).0; fits = (some b refl).1; greatest = λ d few fits. elim (cases_lt b d) [ inl above ↦ let past = rest b refl d above few in absurd (omega arith) | inr below ↦ below ] })
greatest_found n None T e some rest none = subst (Greatest n) (sym e) (record { few = omega arith; fits = omega (arith, none_before); greatest = λ d few fits. elim (cases_lt 0 d) [ inl above ↦ let past = none refl d above few in absurd (omega arith) | inr below ↦ below ] })
