-- Counting nonzero cells.
use Rattle.std.proofs.Common.{◌≡◌, ℕ, zero, suc, ◌+◌, ◌<◌, ◌≤◌, ℤ, pos, negsuc, ◌+ℤ◌, sym, refl, ap, ap₂, ⊎_elim, arith}
use Rattle.std.proofs.lemmas.Int.{ints}
use Rattle.std.proofs.lemmas.Bool.{cases_eq}
use Rattle.haar.specs.Tiles.{cell_count}
use Rattle.store.specs.Meaning.{Meaning, weight, filled, Put}

pub weight_one : (z : ℤ) → (z ≡ pos 0 → ⊥) → weight z ≡ 1
weight_one (pos zero) h = absurd (h refl)
weight_one (pos (suc n)) h = refl
weight_one (negsuc n) h = refl

pub weight_most : (z : ℤ) → weight z ≤ 1
weight_most (pos zero) = omega arith
weight_most (pos (suc n)) = omega arith
weight_most (negsuc n) = omega arith

pub filled_same : (x y : ℕ → ℤ) (n : ℕ) → ((c : ℕ) → c < n → y c ≡ x c) → filled y n ≡ filled x n
unfolding filled
filled_same x y zero e = refl
filled_same x y (suc n) e = ap₂ ◌+◌ (filled_same x y n (λ c h. e c (omega arith))) (ap weight (e n (omega arith)))

-- one cell changed
pub filled_put : (x y : ℕ → ℤ) (c n : ℕ) → c < n → ((k : ℕ) → k < n → (k ≡ c → ⊥) → y k ≡ x k) → filled y n + weight (x c) ≡ filled x n + weight (y c)
unfolding filled
filled_put x y c zero h e = absurd (omega arith)
filled_put x y c (suc n) h e =
    ⊎_elim
    (λ (q : c ≡ n). let t = filled_same x y n (λ k l. e k (omega arith) (λ z. omega arith)) in let u = ap (λ k. weight (x k)) q in let v = ap (λ k. weight (y k)) q in omega arith)
    (λ (ne : c ≡ n → ⊥). let t = filled_put x y c n (omega arith) (λ k l. e k (omega arith)) in let u = ap weight (e n (omega arith) (λ z. ne (sym z))) in omega arith)
    (cases_eq c n)

-- a write keeps room and nonzero cells together
pub put_keeps : (m n : Meaning) (c : ℕ) (v : ℤ) → c < cell_count m.bands → Put m c v n → n.room +ℤ pos (filled n.cells (cell_count m.bands)) ≡ m.room +ℤ pos (filled m.cells (cell_count m.bands))
put_keeps m n c v h p =
    let t = filled_put m.cells n.cells c (cell_count m.bands) h p.others in
    let u = ap weight p.here in
    let r = p.room in
    omega (arith, ints)
