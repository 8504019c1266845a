-- Halving a float exactly.
use Rattle.std.proofs.Common.{◌≡◌, ℕ, suc, ◌+◌, ◌-◌, ◌*◌, ◌^◌, ◌<◌, ◌≤◌, true, false, ℤ, pos, negsuc, sym, refl, ap, ◌∙◌, inl, inr, lt_of_lt_of_le, mul_assoc, mul_comm, eq-or-lt_of_le, mul-pos, one-mul, mul-one, arith, pow_pos, pow_mono, pow-add, shl_lt}
use lib.Ieee.{Float, nan, inf, fin, binary64, up, down, round, div, of_bits, of_fields}
use lib.Ieee.Exact.{HasValue, round_exact}
use lib.Ieee.Scale.{round_same}
use Rattle.warehouse.specs.Laws.{ExactAmounts}

abbrev pub two : Float
two = of_bits binary64 4611686018427387904

pub two_is : two ≡ fin false 1 (pos 1)
unfolding of_bits of_fields
two_is = refl

down_pos : (e : ℤ) → 0 < down e
down_pos (pos k) = omega arith
down_pos (negsuc k) = pow_pos (suc k)

crossed : (a d n w : ℕ) → a * d ≡ n * w → (a * 1) * (d * 2) ≡ n * (2 * w)
crossed a d n w h =
    ap (λ (x : ℕ). x * (d * 2)) (mul-one a) ∙ sym (mul_assoc a d 2) ∙ ap (λ (x : ℕ). x * 2) h
    ∙ mul_assoc n w 2 ∙ ap (λ (x : ℕ). n * x) (mul_comm w 2)

pub half_of : (x : Float) (n d : ℕ) → 0 < d → HasValue x false n d → div binary64 x (fin false 1 (pos 1)) ≡ round binary64 false n (d * 2)
unfolding div
half_of nan n d p v = absurd v
half_of (inf t) n d p v = absurd v
half_of (fin false m e) n d p v =
    round_same binary64 false (m * up e * 1) (2 * down e) n (d * 2) (mul-pos (omega arith) (down_pos e)) (mul-pos p (omega arith)) (crossed (m * up e) d n (down e) v.1)
half_of (fin true m e) n d p v = absurd (differ v.0)
  where
    differ : true ≡ false → ⊥
    differ q = let z : ◌≡◌ {A = ℕ} 0 1 = cc in omega arith

exact : (n k : ℕ) → n ≤ 2 ^ 53 → k ≤ 19 → HasValue (round binary64 false n (2 ^ k)) false n (2 ^ k)
exact n k h kl =
    let back : (1074 - k) + k ≡ 1074 = omega arith in
    let split : 2 ^ 1074 ≡ 2 ^ (1074 - k) * 2 ^ k = ap (λ (x : ℕ). 2 ^ x) (sym back) ∙ pow-add 2 (1074 - k) k in
    elim (eq-or-lt_of_le h) [
      | inr lt ↦ round_exact binary64 false n (2 ^ k) n (1074 - k) (pow_pos k) lt
          (lt_of_lt_of_le (shl_lt 53 (1074 - k) lt) (pow_mono {j = 2098} (omega arith)))
          (ap (λ (x : ℕ). n * x) split ∙ sym (mul_assoc n (2 ^ (1074 - k)) (2 ^ k)))
      | inl eq ↦ round_exact binary64 false n (2 ^ k) 1 (53 + (1074 - k)) (pow_pos k) (omega arith)
          (lt_of_lt_of_le (shl_lt 1 (53 + (1074 - k)) (omega arith)) (pow_mono {j = 2098} (omega arith)))
          (ap (λ (x : ℕ). x * 2 ^ 1074) eq ∙ ap (λ (x : ℕ). 2 ^ 53 * x) split
          ∙ sym (mul_assoc (2 ^ 53) (2 ^ (1074 - k)) (2 ^ k))
          ∙ ap (λ (x : ℕ). x * 2 ^ k) (sym (pow-add 2 53 (1074 - k)) ∙ sym (one-mul (2 ^ (53 + (1074 - k))))))
    ]

pub halve : (n k : ℕ) → n ≤ 2 ^ 53 → k ≤ 19 → div binary64 (round binary64 false n (2 ^ k)) two ≡ round binary64 false n (2 ^ (k + 1))
halve n k h kl =
    ap (λ (y : Float). div binary64 (round binary64 false n (2 ^ k)) y) two_is
    ∙ half_of (round binary64 false n (2 ^ k)) n (2 ^ k) (pow_pos k) (exact n k h kl)
    ∙ ap (λ (y : ℕ). round binary64 false n y) (sym (pow-add 2 k 1))

pub exact_amounts : ExactAmounts
exact_amounts n j h some few = exact n (j - 1) h (omega arith)
