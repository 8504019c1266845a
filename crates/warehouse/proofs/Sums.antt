-- Reading Haar cells back gives plain sums.
use Rattle.std.proofs.Common.{◌≡◌, ℕ, zero, suc, ◌+◌, ◌-◌, ◌*◌, ◌/◌, ◌%◌, ◌^◌, ◌<◌, ◌≤◌, cond, eqb, ltb, leb, ◌∷◌, ℤ, pos, negsuc, ◌+ℤ◌, ◌-ℤ◌, nat_abs, Ok, Err, sym, refl, ap, ◌∙◌, ap₂, ⊎_elim, add-zero, lt_of_mul-lt-mul_right, div-one, arith, pow_pos, pow-add, shr-shr}
use native.Mathlib.Nat.{two-pow-succ, sub-zero}
use lib.Pow.{split as divided}
use Rattle.std.proofs.lemmas.Int.{ints}
use Rattle.std.proofs.lemmas.Bool.{cases_lt, cases_eq, le-leb, lt-ltb, eq-eqb, ne_eqb, cond-true, cond-false}
use Rattle.haar.specs.Tree.{plain_sum, S, D}
use Rattle.haar.specs.declared.coefficient.Coefficient.{Coefficient}
use Rattle.haar.specs.declared.coefficient.Coefficient.TheVariants.{TileSum, Difference}
use Rattle.haar.specs.Tiles.{cell_number, cell_count, Inside}
use Rattle.haar.specs.Haar.{HaarCells}
use Rattle.haar.proofs.Numbers.{same_pow, inside_below}
use Rattle.haar.proofs.Sums.{halves, D_suc, range_step}
use Rattle.haar.proofs.Read.{read_start, start_inside}
use Rattle.store.specs.Meaning.{Meaning}
use Rattle.store.specs.declared.fault.CellFault.TheVariants as cell
use Rattle.warehouse.specs.declared.fault.Fault.TheVariants.{Cell, Torn}
use Rattle.warehouse.specs.Read.{◌then◌, look, limit, sight, half, halve, beside, lower, descend, reading_band, start, read, longest, interval, pieces, read_all, read_range}
use Rattle.warehouse.proofs.Pieces.{longest_is, pieces_more, pieces_none}

double_half : (a : ℤ) → half (a +ℤ a) ≡ a
double_half (pos n) = ap pos (omega arith)
double_half (negsuc n) = ap negsuc (omega arith)

pub double_even : (a : ℤ) → nat_abs (a +ℤ a) % 2 ≡ 0
double_even (pos n) = omega arith
double_even (negsuc n) = omega arith

-- halving a sum and a difference that come from two halves a and b
halved : (c k : ℕ) (s d a b x : ℤ) → s +ℤ d ≡ a +ℤ a → s -ℤ d ≡ b +ℤ b → (k % 2 ≡ 0 → x ≡ a) → (k % 2 ≡ 1 → x ≡ b) → halve c k s d ≡ Ok x
halved c k s d a b x e f l r =
    cond-true (eqb (nat_abs (s +ℤ d) % 2) 0) (Ok (cond (eqb (k % 2) 0) (half (s +ℤ d)) (half (s -ℤ d)))) (Err (Torn c)) (eq-eqb _ 0 (ap (λ z. nat_abs z % 2) e ∙ double_even a))
    ∙ ap Ok (⊎_elim
    (λ (even : k % 2 ≡ 0). cond-true (eqb (k % 2) 0) (half (s +ℤ d)) (half (s -ℤ d)) (eq-eqb _ _ even) ∙ ap half e ∙ double_half a ∙ sym (l even))
    (λ (odd : k % 2 ≡ 0 → ⊥). cond-false (eqb (k % 2) 0) (half (s +ℤ d)) (half (s -ℤ d)) (ne_eqb _ _ odd) ∙ ap half f ∙ double_half b ∙ sym (r (omega arith)))
    (cases_eq (k % 2) 0))

module _ (n : ℕ) (f : ℕ → ℤ) (m : Meaning) (some : 1 ≤ m.bands) (fits : n ≤ 4 * m.bands) (haar : HaarCells m.bands n f m.cells) (small : (c : ℕ) → c < cell_count m.bands → nat_abs (m.cells c) ≤ limit) where
  -- the cell of a coefficient inside the size shows its value
  sighted : (s : Coefficient) (v : ℤ) → Inside n s → m.cells (cell_number m.bands s) ≡ v → sight (cell_number m.bands s) (look m (cell_number m.bands s)) ≡ Ok v
  sighted s v i e =
      let b = inside_below m.bands n s some fits i in
      ap (sight (cell_number m.bands s)) (cond-true (ltb (cell_number m.bands s) (cell_count m.bands)) (Ok (m.cells (cell_number m.bands s))) (Err (Cell (cell.Cell (cell_number m.bands s)))) (lt-ltb _ _ b))
      ∙ cond-true (leb (nat_abs (m.cells (cell_number m.bands s))) limit) (Ok (m.cells (cell_number m.bands s))) (Err (Torn (cell_number m.bands s))) (le-leb _ _ (small _ b))
      ∙ ap Ok e

  lowers : (j k : ℕ) → suc j ≤ n → k < 2 ^ (n - j) → lower m.bands (look m) j k (S f (suc j) (k / 2)) ≡ Ok (S f j k)
  unfolding lower
  lowers j k h b =
      let q : 2 ^ (n - j) ≡ 2 ^ (n - suc j) + 2 ^ (n - suc j) = same_pow (n - j) (suc (n - suc j)) (omega arith) ∙ two-pow-succ (n - suc j) in
      ap (λ r. ◌then◌ r (halve (beside m.bands j k) k (S f (suc j) (k / 2)))) (sighted (Difference (suc j) (k / 2)) (D f (suc j) (k / 2)) (omega arith, omega arith, omega arith) (haar.held _ (omega arith, omega arith, omega arith)))
      ∙ halved (beside m.bands j k) k (S f (suc j) (k / 2)) (D f (suc j) (k / 2)) (S f j (2 * (k / 2))) (S f j (2 * (k / 2) + 1)) (S f j k)
      (omega (arith, ints, halves f j (k / 2), D_suc f j (k / 2))) (omega (arith, ints, halves f j (k / 2), D_suc f j (k / 2)))
      (λ z. ap (S f j) (omega arith)) (λ z. ap (S f j) (omega arith))

  descends : (first j k d : ℕ) → j + d ≤ n → k < 2 ^ (n - j) → sight first (look m first) ≡ Ok (S f (j + d) (k / 2 ^ d)) → descend m.bands (look m) first j k d ≡ Ok (S f j k)
  unfolding descend
  descends first j k zero h b e = e ∙ ap₂ (λ l i. Ok (S f l i)) (add-zero j) (div-one k)
  descends first j k (suc d) h b e =
      let q : 2 ^ (n - j) ≡ 2 ^ (n - suc j) + 2 ^ (n - suc j) = same_pow (n - j) (suc (n - suc j)) (omega arith) ∙ two-pow-succ (n - suc j) in
      ap (λ r. ◌then◌ r (lower m.bands (look m) j k)) (descends first (suc j) (k / 2) d (omega arith) (omega arith) (e ∙ ap₂ (λ l i. Ok (S f l i)) (omega arith) (ap (λ y. k / 2 ^ y) (omega arith) ∙ sym (shr-shr k 1 d))))
      ∙ lowers j k (omega arith) b

  -- every sum inside the size is read
  pub reads : (j k : ℕ) → j ≤ n → k < 2 ^ (n - j) → read m.bands n (look m) j k ≡ Ok (S f j k)
  unfolding read
  reads j k h b =
      let e : j + (start n j - j) ≡ start n j = omega arith in
      descends _ j k (start n j - j) (omega arith) b
      (sighted (TileSum (reading_band j) (k / 2 ^ (4 * reading_band j + 4 - j))) _ (start_inside n j k (reading_band j) h b refl) (read_start m.bands n j k (reading_band j) f m.cells h b refl haar) ∙ ap (λ l. Ok (S f l (k / 2 ^ (start n j - j)))) (sym e))

  pub reads_point : (i : ℕ) → i < 2 ^ n → read m.bands n (look m) 0 i ≡ Ok (f i)
  unfolding plain_sum
  reads_point i h = reads 0 i (omega arith) (rw sub-zero h) ∙ ap Ok (let e : i * 1 + 0 ≡ i = omega arith in omega (arith, ints, ap f e))

  -- the first interval of a range, and the rest
  reads_first : (a b j : ℕ) → j ≤ n → a % 2 ^ j ≡ 0 → a + 2 ^ j ≤ b → b ≤ 2 ^ n → read_range m.bands n (look m) (a + 2 ^ j) b ≡ Ok (plain_sum f (a + 2 ^ j) (b - (a + 2 ^ j))) → read_all m.bands n (look m) (interval j (a / 2 ^ j) ∷ pieces n (a + 2 ^ j) b) ≡ Ok (plain_sum f a (b - a))
  unfolding read_all
  reads_first a b j c z e h rest =
      let d : a ≡ a / 2 ^ j * 2 ^ j = omega (arith, divided a j) in
      let q : 2 ^ n ≡ 2 ^ (n - j) * 2 ^ j = same_pow n (n - j + j) (omega arith) ∙ pow-add 2 (n - j) j in
      let i : a / 2 ^ j < 2 ^ (n - j) = lt_of_mul-lt-mul_right (2 ^ j) (omega (arith, pow_pos j)) in
      ap₂ (λ x y. ◌then◌ x (λ s. ◌then◌ y (λ r. Ok (s +ℤ r)))) (reads j (a / 2 ^ j) c i) rest
      ∙ ap Ok (sym (range_step f a b j (a / 2 ^ j) d e))

  reads_none : (a b : ℕ) → b ≤ a → read_range m.bands n (look m) a b ≡ Ok (plain_sum f a (b - a))
  unfolding read_all plain_sum
  reads_none a b h = let z : 0 ≡ b - a = omega arith in ap (read_all m.bands n (look m)) (pieces_none n a b h) ∙ ap (λ len. Ok (plain_sum f a len)) z

  reads_more : (most a b : ℕ) → b - a ≤ most → b ≤ 2 ^ n → read_range m.bands n (look m) a b ≡ Ok (plain_sum f a (b - a))
  reads_more zero a b l h = reads_none a b (omega arith)
  reads_more (suc most) a b l h =
      ⊎_elim
      (λ (lt : a < b).
      let u = longest_is n a b lt in
      ap (read_all m.bands n (look m)) (pieces_more n a b lt)
      ∙ reads_first a b (longest n a b) u.low u.here.aligned u.here.ends h (reads_more most (a + 2 ^ longest n a b) b (omega (arith, pow_pos (longest n a b))) h))
      (λ (le : b ≤ a). reads_none a b le)
      (cases_lt a b)

  -- every range inside the size is read
  pub reads_range : (a b : ℕ) → b ≤ 2 ^ n → read_range m.bands n (look m) a b ≡ Ok (plain_sum f a (b - a))
  reads_range a b h = reads_more (b - a) a b (omega arith) h
