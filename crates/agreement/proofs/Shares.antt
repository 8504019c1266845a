-- SHIFT and SPLIT give each touched coefficient the Haar value of the chunk alone.
use Rattle.std.proofs.Common.{◌≡◌, ℕ, ◌+◌, ◌-◌, ◌*◌, ◌/◌, ◌%◌, ◌^◌, ◌<◌, ◌≤◌, eqb, leb, List, ℤ, ◌+ℤ◌, neg_ℤ, sym, ap, ◌∙◌, ⊎_elim, arith}
use Rattle.std.proofs.lemmas.Bool.{cases_lt, cases_eq, le-leb, lt-leb, eq-eqb, ne_eqb, cond-true, cond-false}
use Rattle.haar.specs.Tree.{S}
use Rattle.haar.specs.declared.coefficient.Coefficient.{Coefficient}
use Rattle.haar.specs.declared.coefficient.Coefficient.TheVariants.{TileSum, Difference}
use Rattle.haar.specs.Tiles.{cell_number, Inside}
use Rattle.haar.specs.Haar.{value}
use Rattle.haar.specs.Load.{Touched, Loaded}
use Rattle.loads.specs.Reach.{Meets}
use Rattle.loads.specs.Share.{minutes, alone}
use Rattle.loads.proofs.Splits.{share_diff, share_sum, share_left, share_right, share_over}
use Rattle.agreement.specs.Share.{share, SharesAdded}

module _ (m p : ℕ) (values : List ℤ) (n : ℕ) (h : m ≤ n) where
  over_chunk : (j k : ℕ) → m < j → Meets n m p (Difference j k) → share m p values (Difference j k) ≡ value n (minutes m p values) (Difference j k)
  over_chunk j k l me =
      cond-false (leb j m) _ _ (lt-leb _ _ l)
      ∙ ⊎_elim
      (λ (even : p / 2 ^ (j - 1 - m) % 2 ≡ 0).
      cond-true (eqb (p / 2 ^ (j - 1 - m) % 2) 0) (S (alone values) m 0) (neg_ℤ (S (alone values) m 0)) (eq-eqb _ _ even) ∙ share_left m p values n j k h l even me)
      (λ (odd : p / 2 ^ (j - 1 - m) % 2 ≡ 0 → ⊥).
      cond-false (eqb (p / 2 ^ (j - 1 - m) % 2) 0) (S (alone values) m 0) (neg_ℤ (S (alone values) m 0)) (ne_eqb _ _ odd) ∙ share_right m p values n j k h l (omega arith) me)
      (cases_eq (p / 2 ^ (j - 1 - m) % 2) 0)

  pub shares : (s : Coefficient) → Inside n s → Touched n m p s → share m p values s ≡ value n (minutes m p values) s
  shares (TileSum t k) i e =
      ⊎_elim
      (λ (l : m < 4 * t + 4). cond-false (leb (4 * t + 4) m) _ _ (lt-leb _ _ l) ∙ share_over m p values n t k h (omega arith) (record { inside = i; touched = e }))
      (λ (l : 4 * t + 4 ≤ m). cond-true (leb (4 * t + 4) m) _ _ (le-leb _ _ l) ∙ share_sum m p values n t k l h (record { inside = i; touched = e }))
      (cases_lt m (4 * t + 4))
  shares (Difference j k) i e =
      ⊎_elim (λ (l : m < j). over_chunk j k l (record { inside = i; touched = e }))
      (λ (l : j ≤ m). cond-true (leb j m) _ _ (le-leb _ _ l) ∙ share_diff m p values n j k i.0 l (record { inside = i; touched = e }))
      (cases_lt m j)

module _ (T n m p : ℕ) (values : List ℤ) (x y : ℕ → ℤ) (h : m ≤ n) where
  pub as_loaded : SharesAdded T n m p values x y → Loaded T n m p (minutes m p values) x y
  as_loaded s = record { added = λ c i t. s.touched c i t ∙ ap (λ v. x (cell_number T c) +ℤ v) (shares m p values n h c i t); kept = s.others }

  pub of_loaded : Loaded T n m p (minutes m p values) x y → SharesAdded T n m p values x y
  of_loaded s = record { touched = λ c i t. s.added c i t ∙ sym (ap (λ v. x (cell_number T c) +ℤ v) (shares m p values n h c i t)); others = s.kept }
