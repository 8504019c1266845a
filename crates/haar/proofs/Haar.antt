-- Laws of the Haar cells.
use Rattle.std.proofs.Common.{◌≡◌, ℕ, zero, suc, ◌+◌, ◌-◌, ◌*◌, ◌^◌, ◌<◌, ◌≤◌, ◌⊎◌, ℤ, pos, ◌+ℤ◌, sym, refl, ap, ◌∙◌, subst, ap₂, inl, inr, ⊎_elim, arith}
use mathlib.Core.Path.{fun_ext}
use Rattle.std.proofs.lemmas.Bool.{cases_lt, cases_eq}
use Rattle.std.proofs.lemmas.Int.{ints}
use Rattle.haar.specs.declared.coefficient.Coefficient.{Coefficient}
use Rattle.haar.specs.declared.coefficient.Coefficient.TheVariants.{TileSum, Difference}
use Rattle.haar.specs.Tiles.{tiles_before, cell_number, cell_count, Inside}
use Rattle.haar.specs.Haar.{value, HaarCells}
use Rattle.haar.proofs.Sums.{total_plus}
use Rattle.haar.proofs.Numbers.{Placed, injective, decode, inside_placed, one_coefficient, inside_below}

-- two coefficients are equal or not, and a coefficient is inside the size or not
pub same_coefficient : (s s' : Coefficient) → (s ≡ s') ⊎ (s ≡ s' → ⊥)
same_coefficient (TileSum t k) (TileSum t' k') = grind (arith, cases_eq t t', cases_eq k k')
same_coefficient (TileSum t k) (Difference j k') = grind arith
same_coefficient (Difference j k) (TileSum t k') = grind arith
same_coefficient (Difference j k) (Difference j' k') = grind (arith, cases_eq j j', cases_eq k k')

pub inside_or_not : (n : ℕ) (s : Coefficient) → Inside n s ⊎ (Inside n s → ⊥)
inside_or_not n (TileSum t k) = grind (arith, cases_eq t 0, cases_lt (4 * t) n, cases_lt (k * 16 ^ (t + 1)) (2 ^ n))
inside_or_not n (Difference j k) = grind (arith, cases_lt 0 j, cases_lt n j, cases_lt k (2 ^ (n - j)))

-- the coefficient inside the size that a cell is of, or that there is none
pub coefficient_of : (T n c : ℕ) → n ≤ 4 * T → c < cell_count T → ((s : Coefficient) × Inside n s × (cell_number T s ≡ c)) ⊎ ((s : Coefficient) → Inside n s → cell_number T s ≡ c → ⊥)
unfolding tiles_before
coefficient_of zero n c h b = absurd (omega arith)
coefficient_of (suc top) n c h b = go (decode top c b)
  where
    go : (s : Coefficient) × Placed top s × (cell_number (suc top) s ≡ c) → ((s : Coefficient) × Inside n s × (cell_number (suc top) s ≡ c)) ⊎ ((s : Coefficient) → Inside n s → cell_number (suc top) s ≡ c → ⊥)
    go (s, p, e) =
        ⊎_elim (λ i. inl (s, i, e))
        (λ no_one. inr (λ s' i e'. no_one (subst (Inside n) (injective top s' s (inside_placed top n s' h i) p (e' ∙ sym e)) i)))
        (inside_or_not n s)

-- the Haar cells of equal data agree
pub one_haar : (T n : ℕ) (f g x y : ℕ → ℤ) → n ≤ 4 * T → ((i : ℕ) → f i ≡ g i) → HaarCells T n f x → HaarCells T n g y → (c : ℕ) → c < cell_count T → x c ≡ y c
one_haar T n f g x y h e p q c b =
    ⊎_elim (λ (s, i, u). sym (ap x u) ∙ p.held s i ∙ ap (λ f. value n f s) (fun_ext e) ∙ sym (q.held s i) ∙ ap y u)
    (λ none. p.empty c b none ∙ sym (q.empty c b none)) (coefficient_of T n c h b)

-- values add
pub value_plus : (n : ℕ) (f g : ℕ → ℤ) (s : Coefficient) → value n (λ i. f i +ℤ g i) s ≡ value n f s +ℤ value n g s
value_plus n f g (TileSum t k) = total_plus f g _ _
value_plus n f g (Difference j k) =
    omega (arith, ints, total_plus f g (2 * k * 2 ^ (j - 1)) (2 ^ (j - 1)), total_plus f g ((2 * k + 1) * 2 ^ (j - 1)) (2 ^ (j - 1)))

pub haar_plus : (T n : ℕ) (f g x y : ℕ → ℤ) → HaarCells T n f x → HaarCells T n g y → HaarCells T n (λ i. f i +ℤ g i) (λ c. x c +ℤ y c)
haar_plus T n f g x y p q =
    record { held = λ s i. ap₂ ◌+ℤ◌ (p.held s i) (q.held s i) ∙ sym (value_plus n f g s); empty = λ c b none. ap₂ ◌+ℤ◌ (p.empty c b none) (q.empty c b none) }

-- there are such cells, whatever the data
module _ (T n : ℕ) (f : ℕ → ℤ) (some-band : 1 ≤ T) (fits : n ≤ 4 * T) where
  abbrev Answer : ℕ → Type 0
  Answer c = ((s : Coefficient) × Inside n s × (cell_number T s ≡ c)) ⊎ ((s : Coefficient) → Inside n s → cell_number T s ≡ c → ⊥)

  abbrev pick : (c : ℕ) → Answer c → ℤ
  pick c (inl found) = value n f found.0
  pick c (inr none) = pos 0

  abbrev cell : (c : ℕ) → (c < cell_count T) ⊎ (cell_count T ≤ c) → ℤ
  cell c (inl b) = pick c (coefficient_of T n c fits b)
  cell c (inr past) = pos 0

  pub some_haar : (x : ℕ → ℤ) × HaarCells T n f x
  some_haar = ((λ c. cell c (cases_lt c (cell_count T))), record { held = λ s i. held s i (cases_lt (cell_number T s) (cell_count T)); empty = λ c b none. empty c none (cases_lt c (cell_count T)) })
    where
      picked : (s : Coefficient) → Inside n s → (q : Answer (cell_number T s)) → pick (cell_number T s) q ≡ value n f s
      picked s i (inl (s', i', e)) = ap (value n f) (one_coefficient T n s' s some-band fits i' i e)
      picked s i (inr none) = absurd (none s i refl)

      held : (s : Coefficient) → Inside n s → (r : (cell_number T s < cell_count T) ⊎ (cell_count T ≤ cell_number T s)) → cell (cell_number T s) r ≡ value n f s
      held s i (inl b) = picked s i (coefficient_of T n (cell_number T s) fits b)
      held s i (inr past) = absurd (omega (arith, inside_below T n s some-band fits i))

      unpicked : (c : ℕ) → ((s : Coefficient) → Inside n s → cell_number T s ≡ c → ⊥) → (q : Answer c) → pick c q ≡ pos 0
      unpicked c none (inl (s, i, e)) = absurd (none s i e)
      unpicked c none (inr _) = refl

      empty : (c : ℕ) → ((s : Coefficient) → Inside n s → cell_number T s ≡ c → ⊥) → (r : (c < cell_count T) ⊎ (cell_count T ≤ c)) → cell c r ≡ pos 0
      empty c none (inl b) = unpicked c none (coefficient_of T n c fits b)
      empty c none (inr past) = refl
