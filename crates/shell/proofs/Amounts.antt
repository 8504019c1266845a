-- The digits of an amount, and its shortest text.
use Rattle.std.proofs.Common.{◌≡◌, ℕ, zero, suc, ◌+◌, ◌-◌, ◌/◌, ◌%◌, ◌^◌, ◌<◌, true, false, cond, List, ◌++◌, decimal, Float, sym, ap, ◌∙◌, append_assoc, arith}
use Rattle.std.proofs.lemmas.Bool.{cond-true, cond-false}
use Rattle.shell.specs.Amount.{places, rounded, reads_back, amount_from}

one_less : (k : ℕ) → k ≡ suc k - 1
one_less k = omega arith

pub places_more : (p n : ℕ) → 0 < p → places p n ≡ decimal (n / 10 ^ (p - 1) % 10) ++ places (p - 1) n
places_more zero n some = absurd (omega arith)
places_more (suc p) n some = ap (λ (q : ℕ). decimal (n / 10 ^ q % 10) ++ places q n) (one_less p)

pub come_more : (start text digit : List ℕ) (p n : ℕ) → 0 < p → digit ≡ decimal (n / 10 ^ (p - 1) % 10) → start ≡ text ++ places p n → start ≡ (text ++ digit) ++ places (p - 1) n
come_more start text digit p n some is e =
    e ∙ ap (λ t. text ++ t) (places_more p n some ∙ ap (λ d. d ++ places (p - 1) n) (sym is)) ∙ sym (append_assoc text digit (places (p - 1) n))

tried : (m p : ℕ) (x : Float) → 0 < m → amount_from m p x ≡ cond (reads_back x (rounded x p)) (rounded x p) (amount_from (m - 1) (p + 1) x)
unfolding amount_from
tried zero p x some = absurd (omega arith)
tried (suc k) p x some = ap (λ (j : ℕ). cond (reads_back x (rounded x p)) (rounded x p) (amount_from j (p + 1) x)) (one_less k)

fewer : (p : ℕ) → p < 19 → 19 - p - 1 ≡ 19 - (p + 1)
fewer p h = omega (arith, h)

pub read_there : (p : ℕ) (x : Float) → p < 19 → reads_back x (rounded x p) ≡ true → amount_from (19 - p) p x ≡ rounded x p
read_there p x h is = tried (19 - p) p x (omega (arith, h)) ∙ cond-true (reads_back x (rounded x p)) _ _ is

pub read_later : (p : ℕ) (x : Float) → p < 19 → reads_back x (rounded x p) ≡ false → amount_from (19 - p) p x ≡ amount_from (19 - (p + 1)) (p + 1) x
read_later p x h is = tried (19 - p) p x (omega (arith, h)) ∙ cond-false (reads_back x (rounded x p)) _ _ is ∙ ap (λ (m : ℕ). amount_from m (p + 1) x) (fewer p h)

pub at_last : (p : ℕ) (x : Float) → p ≡ 19 → amount_from (19 - p) p x ≡ rounded x 19
unfolding amount_from
at_last p x is = ap (λ (q : ℕ). amount_from (19 - q) q x) is
