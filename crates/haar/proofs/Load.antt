-- Founding, a load, the total, and a chunk's own tree.
use Rattle.std.proofs.Common.{◌≡◌, ℕ, zero, suc, ◌+◌, ◌-◌, ◌*◌, ◌/◌, ◌%◌, ◌^◌, ◌<◌, ◌≤◌, min, ◌⊎◌, ℤ, pos, ◌+ℤ◌, ◌-ℤ◌, ◌*ℤ◌, sym, refl, ap, ◌∙◌, subst, ap₂, inl, inr, ⊎_elim, add_assoc, mul-le-mul_right, arith, pow_pos, pow-add}
use native.Mathlib.Nat.{two-pow-succ}
use Rattle.std.proofs.lemmas.Bool.{cases_eq}
use Rattle.std.proofs.lemmas.Int.{ints}
use Rattle.haar.specs.Tree.{plain_sum, S, D}
use Rattle.haar.specs.declared.coefficient.Coefficient.{Coefficient}
use Rattle.haar.specs.declared.coefficient.Coefficient.TheVariants.{TileSum, Difference}
use Rattle.haar.specs.Tiles.{cell_number, cell_count, Inside}
use Rattle.haar.specs.Haar.{value, HaarCells}
use Rattle.haar.specs.Load.{Chunk, level, index, Touched, Loaded}
use Rattle.haar.specs.Count.{bands_in_use}
use Rattle.haar.proofs.Sums.{total_zero, halves, D_suc}
use Rattle.haar.proofs.Numbers.{same_pow, one_coefficient, inside_below}
use Rattle.haar.proofs.Haar.{value_plus, some_haar, coefficient_of}
use Rattle.haar.proofs.Split.{value_whole, splits}

-- an empty store has the Haar cells of no running at all
pub founded : (T n : ℕ) (x : ℕ → ℤ) → 1 ≤ T → n ≤ 4 * T → ((c : ℕ) → c < cell_count T → x c ≡ pos 0) → HaarCells T n (λ i. pos 0) x
founded T n x a h z = record { held = λ s i. z (cell_number T s) (inside_below T n s a h i) ∙ sym (value_none s); empty = λ c b none. z c b }
  where
    none : (a len : ℕ) → plain_sum (λ i. pos 0) a len ≡ pos 0
    none a len = total_zero (λ i. pos 0) a len (λ i _ _. refl)

    value_none : (s : Coefficient) → value n (λ i. pos 0) s ≡ pos 0
    value_none (TileSum t k) = none _ _
    value_none (Difference j k) = omega (arith, ints, none (2 * k * 2 ^ (j - 1)) (2 ^ (j - 1)), none ((2 * k + 1) * 2 ^ (j - 1)) (2 ^ (j - 1)))

-- a load keeps the Haar cells
pub loaded : (T n m p : ℕ) (f g x y : ℕ → ℤ) → 1 ≤ T → n ≤ 4 * T → m ≤ n → Chunk m p g → HaarCells T n f x → Loaded T n m p g x y → HaarCells T n (λ i. f i +ℤ g i) y
loaded T n m p f g x y a h l chunk haar load = record { held = held; empty = λ c b none. load.kept c b (λ s i _. none s i) ∙ haar.empty c b none }
  where
    held : (s : Coefficient) → Inside n s → y (cell_number T s) ≡ value n (λ i. f i +ℤ g i) s
    held s i =
        ⊎_elim (λ (t : Touched n m p s). load.added s i t ∙ ap (λ v. v +ℤ value n g s) (haar.held s i) ∙ sym (value_plus n f g s))
        (λ un.
        let k : y (cell_number T s) ≡ x (cell_number T s) = load.kept (cell_number T s) (inside_below T n s a h i) (λ s' i' t e. un (subst (Touched n m p) (one_coefficient T n s' s a h i' i e) t)) in
        omega (arith, ints, haar.held s i, value_plus n f g s, (splits m p g chunk n l).untouched s i un))
        (cases_eq (index s / 2 ^ (m - level n s)) (p / 2 ^ (level n s - m)))

-- the total stands in the top tile
pub total_cell : (T n : ℕ) (f x : ℕ → ℤ) → HaarCells T n f x → x (cell_number T (TileSum (bands_in_use n - 1) 0)) ≡ S f n 0
total_cell T n f x haar =
    let e : min (4 * (bands_in_use n - 1) + 4) n ≡ n = omega arith in
    haar.held _ i ∙ value_whole n f (bands_in_use n - 1) 0 i ∙ ap (λ l. S f l 0) e
  where
    i : Inside n (TileSum (bands_in_use n - 1) 0)
    i = (⊎_elim inl (λ ne. inr (omega arith)) (cases_eq (bands_in_use n - 1) 0), omega (arith, pow_pos n))

-- one step down from S(r+1,·) to S(r,q)
pub down : (f : ℕ → ℤ) (r q : ℕ) → (q % 2 ≡ 0 → pos 2 *ℤ S f r q ≡ S f (suc r) (q / 2) +ℤ D f (suc r) (q / 2)) × (q % 2 ≡ 1 → pos 2 *ℤ S f r q ≡ S f (suc r) (q / 2) -ℤ D f (suc r) (q / 2))
down f r q = (
  (λ z. let e : q ≡ 2 * (q / 2) = omega arith in omega (arith, ints, halves f r (q / 2), D_suc f r (q / 2), ap (S f r) e)),
  (λ z. let e : q ≡ 2 * (q / 2) + 1 = omega arith in omega (arith, ints, halves f r (q / 2), D_suc f r (q / 2), ap (S f r) e)),
)

-- SHIFT: the chunk's tree stands in the large tree, its index moved
total_shift : (g v : ℕ → ℤ) (b a len : ℕ) → ((i : ℕ) → i < a + len → g (b + i) ≡ v i) → plain_sum g (b + a) len ≡ plain_sum v a len
unfolding plain_sum
total_shift g v b a zero e = refl
total_shift g v b a (suc len) e =
    ap₂ ◌+ℤ◌ (total_shift g v b a len (λ i h. e i (omega arith))) (ap g (add_assoc b a len) ∙ e (a + len) (omega arith))

pub shifted_S : (m p j k : ℕ) (g v : ℕ → ℤ) → j ≤ m → k < 2 ^ (m - j) → ((i : ℕ) → i < 2 ^ m → g (p * 2 ^ m + i) ≡ v i) → S g j (p * 2 ^ (m - j) + k) ≡ S v j k
shifted_S m p j k g v h b e =
    let u : 2 ^ m ≡ 2 ^ (m - j) * 2 ^ j = same_pow m (m - j + j) (omega arith) ∙ pow-add 2 (m - j) j in
    let w : (p * 2 ^ (m - j) + k) * 2 ^ j ≡ p * 2 ^ m + k * 2 ^ j = rw u (omega arith) in
    ap (λ a. plain_sum g a (2 ^ j)) w ∙ total_shift g v (p * 2 ^ m) (k * 2 ^ j) (2 ^ j) (λ i l. e i (omega (arith, mul-le-mul_right (2 ^ j) b)))

pub shifted_D : (m p j k : ℕ) (g v : ℕ → ℤ) → suc j ≤ m → k < 2 ^ (m - suc j) → ((i : ℕ) → i < 2 ^ m → g (p * 2 ^ m + i) ≡ v i) → D g (suc j) (p * 2 ^ (m - suc j) + k) ≡ D v (suc j) k
shifted_D m p j k g v h b e =
    let u : 2 ^ (m - j) ≡ 2 ^ (m - suc j) + 2 ^ (m - suc j) = same_pow (m - j) (suc (m - suc j)) (omega arith) ∙ two-pow-succ (m - suc j) in
    let l : 2 * (p * 2 ^ (m - suc j) + k) ≡ p * 2 ^ (m - j) + 2 * k = rw u (omega arith) in
    let r : 2 * (p * 2 ^ (m - suc j) + k) + 1 ≡ p * 2 ^ (m - j) + (2 * k + 1) = rw u (omega arith) in
    D_suc g j _ ∙ ap₂ (λ x y. S g j x -ℤ S g j y) l r
    ∙ ap₂ ◌-ℤ◌ (shifted_S m p j (2 * k) g v (omega arith) (omega arith) e) (shifted_S m p j (2 * k + 1) g v (omega arith) (omega arith) e)
    ∙ sym (D_suc v j k)

-- a load has cells to come to
pub some_load : (T n m p : ℕ) (g x : ℕ → ℤ) → 1 ≤ T → n ≤ 4 * T → m ≤ n → Chunk m p g → (y : ℕ → ℤ) × Loaded T n m p g x y
some_load T n m p g x a h l chunk = go (some_haar T n g a h)
  where
    go : (z : ℕ → ℤ) × HaarCells T n g z → (y : ℕ → ℤ) × Loaded T n m p g x y
    go (z, haar) =
        ((λ c. x c +ℤ z c), record { added = λ s i t. ap (λ v. x (cell_number T s) +ℤ v) (haar.held s i); kept = λ c b none. none-added c (zero-at c b none (coefficient_of T n c h b)) })
      where
        zero-at : (c : ℕ) → c < cell_count T → ((s : Coefficient) → Inside n s → Touched n m p s → cell_number T s ≡ c → ⊥) → ((s : Coefficient) × Inside n s × (cell_number T s ≡ c)) ⊎ ((s : Coefficient) → Inside n s → cell_number T s ≡ c → ⊥) → z c ≡ pos 0
        zero-at c b none (inl (s, i, e)) = sym (ap z e) ∙ haar.held s i ∙ (splits m p g chunk n l).untouched s i (λ t. none s i t e)
        zero-at c b none (inr out) = haar.empty c b out

        none-added : (c : ℕ) → z c ≡ pos 0 → x c +ℤ z c ≡ x c
        none-added c e = omega (arith, ints)
