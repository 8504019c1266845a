-- The longest interval, and a range split into such intervals.
use Rattle.std.proofs.Common.{◌≡◌, ℕ, zero, suc, ◌+◌, ◌-◌, ◌*◌, ◌/◌, ◌%◌, ◌^◌, ◌<◌, ◌≤◌, min, Bool, true, false, cond, eqb, leb, ◌⊎◌, [], ◌∷◌, sym, refl, ap, ◌∙◌, subst, inl, inr, ⊎_elim, arith, pow_pos, pow_mono, le_antisymm, add-one}
use native.Mathlib.Nat.{two-pow-succ, zero-mod, mod_self, mod-add-mod, add-mod_right}
use lib.Count.{count_trailing_zeros, under}
use lib.Pow.{mod-mod-pow, mod-pow-add}
use Rattle.std.proofs.lemmas.Bool.{cases_lt, cases_eq, and_parts, and_from, eqb-true, leb-true, le-leb, lt-leb, eq-eqb, both_ways, cond-true, cond-false}
use Rattle.warehouse.specs.Laws.{Starts}
use Rattle.warehouse.specs.Read.{starts, longest, interval, split, pieces, cells_read}

starts_is : (j a b : ℕ) → starts j a b ≡ true → Starts j a b
starts_is j a b e = let w = and_parts (eqb (a % 2 ^ j) 0) (leb (a + 2 ^ j) b) e in record { aligned = eqb-true _ _ w.0; ends = leb-true _ _ w.1 }

is_starts : (j a b : ℕ) → Starts j a b → starts j a b ≡ true
is_starts j a b s = and_from (eqb (a % 2 ^ j) 0) (leb (a + 2 ^ j) b) (eq-eqb _ _ s.aligned) (le-leb _ _ s.ends)

-- the longest interval: it starts at a, and no longer one does
pub record Longest (n a b j : ℕ) : Type 0 where
  pub low : j ≤ n
  pub here : Starts j a b
  pub most : (i : ℕ) → i ≤ n → Starts i a b → i ≤ j

pub longest_is : (l a b : ℕ) → a < b → Longest l a b (longest l a b)
unfolding longest
longest_is zero a b h = record { low = omega arith; here = record { aligned = omega arith; ends = omega arith }; most = λ i le s. le }
longest_is (suc l) a b h = go (starts (suc l) a b) refl (longest_is l a b h)
  where
    go : (t : Bool) → starts (suc l) a b ≡ t → Longest l a b (longest l a b) → Longest (suc l) a b (cond t (suc l) (longest l a b))
    go true e u = record { low = omega arith; here = starts_is _ _ _ e; most = λ i le s. le }
    go false e u = record {
      low = let k = u.low in omega arith;
      here = u.here;
      most = λ i le s.
          ⊎_elim (λ (lt : i < suc l). u.most i (omega arith) s)
          (λ (ge : suc l ≤ i). let q : i ≡ suc l = omega arith in absurd (both_ways _ e (is_starts _ _ _ (subst (λ j. Starts j a b) q s))))
          (cases_lt i (suc l));
    }

-- there is one
longest_one : (n a b i j : ℕ) → Longest n a b i → Longest n a b j → i ≡ j
longest_one n a b i j u v = le_antisymm (v.most i u.low u.here) (u.most j v.low v.here)

-- past the end there is none, and the level is 0
longest_none : (l a b : ℕ) → b ≤ a → longest l a b ≡ 0
unfolding longest
longest_none zero a b h = refl
longest_none (suc l) a b h = go (starts (suc l) a b) refl (longest_none l a b h)
  where
    go : (t : Bool) → starts (suc l) a b ≡ t → longest l a b ≡ 0 → cond t (suc l) (longest l a b) ≡ 0
    go true e z = let m = (starts_is (suc l) a b e).ends in let p = pow_pos (suc l) in absurd (omega arith)
    go false e z = z

-- a number modulo twice a power
mod_twice : (a i : ℕ) → a % 2 ^ suc i ≡ (a / 2 % 2 ^ i) * 2 + a % 2
mod_twice a i = ap (λ x. a % 2 ^ x) (sym (add-one i)) ∙ mod-pow-add a i 1

-- its trailing zeros tell which powers divide a number: all up to there, and no others
round_below : (k a i : ℕ) → i ≤ count_trailing_zeros k a → a % 2 ^ i ≡ 0
unfolding count_trailing_zeros
round_below k a zero h = omega arith
round_below zero a (suc i) h = absurd (omega arith)
round_below (suc k) a (suc i) h =
    ⊎_elim
    (λ (e : a % 2 ≡ 0). let t = ap (λ r. under r (count_trailing_zeros k (a / 2))) e in let r = round_below k (a / 2) i (omega arith) in omega (arith, mod_twice a i))
    (λ (ne : a % 2 ≡ 0 → ⊥). let o : a % 2 ≡ 1 = omega arith in let t = ap (λ r. under r (count_trailing_zeros k (a / 2))) o in absurd (omega arith))
    (cases_eq (a % 2) 0)

below_round : (k a i : ℕ) → i ≤ k → a % 2 ^ i ≡ 0 → i ≤ count_trailing_zeros k a
unfolding count_trailing_zeros
below_round k a zero h e = omega arith
below_round zero a (suc i) h e = absurd (omega arith)
below_round (suc k) a (suc i) h e =
    let m = mod_twice a i in
    let z : a % 2 ≡ 0 = omega arith in
    let r = below_round k (a / 2) i (omega arith) (omega arith) in
    let t = ap (λ r. under r (count_trailing_zeros k (a / 2))) z in
    omega arith

-- the least of the size, the zeros that a ends in, and the power g of two that the length holds
module _ (n a b g : ℕ) (low : n ≤ 32) where
  abbrev pub least : ℕ
  least = min (min n (count_trailing_zeros 32 a)) g

  least_longest : 2 ^ g ≤ b - a → b - a < 2 * 2 ^ g → Longest n a b least
  least_longest le lt = record {
    low = omega arith;
    here = record { aligned = round_below 32 a least (omega arith); ends = let p : 2 ^ least ≤ 2 ^ g = pow_mono {i = least} {j = g} (omega arith) in let q = pow_pos least in omega arith };
    most = λ i l s.
        let z = below_round 32 a i (omega arith) s.aligned in
        let m = s.ends in
        ⊎_elim
        (λ (over : g < i). let p : 2 ^ suc g ≤ 2 ^ i = pow_mono {i = suc g} {j = i} over in absurd (omega (arith, two-pow-succ g)))
        (λ (under : i ≤ g). omega arith)
        (cases_lt g i);
  }

  pub longest_least : (a < b → (2 ^ g ≤ b - a) × (b - a < 2 * 2 ^ g)) → (b ≤ a → g ≡ 0) → least ≡ longest n a b
  longest_least some none =
      ⊎_elim
      (λ (lt : a < b). longest_one n a b _ _ (least_longest (some lt).0 (some lt).1) (longest_is n a b lt))
      (λ (le : b ≤ a). let z = none le in let e = longest_none n a b le in omega arith)
      (cases_lt a b)

-- a number of intervals that is enough
split_enough : (x y n a b : ℕ) → b - a ≤ x → b - a ≤ y → split x n a b ≡ split y n a b
unfolding split
split_enough zero zero n a b h k = refl
split_enough zero (suc y) n a b h k = sym (cond-true (leb b a) [] _ (le-leb _ _ (omega arith)))
split_enough (suc x) zero n a b h k = cond-true (leb b a) [] _ (le-leb _ _ (omega arith))
split_enough (suc x) (suc y) n a b h k =
    ap (λ rest. cond (leb b a) [] (interval (longest n a b) (a / 2 ^ longest n a b) ∷ rest))
    (let p = pow_pos (longest n a b) in split_enough x y n (a + 2 ^ longest n a b) b (omega arith) (omega arith))

-- a range is its first interval and the rest
pub pieces_more : (n a b : ℕ) → a < b → pieces n a b ≡ interval (longest n a b) (a / 2 ^ longest n a b) ∷ pieces n (a + 2 ^ longest n a b) b
unfolding split
pieces_more n a b h =
    let q : b - a ≡ suc (b - a - 1) = omega arith in
    let p = pow_pos (longest n a b) in
    ap (λ x. split x n a b) q
    ∙ cond-false (leb b a) [] _ (lt-leb _ _ h)
    ∙ ap (λ rest. interval (longest n a b) (a / 2 ^ longest n a b) ∷ rest) (split_enough (b - a - 1) (b - (a + 2 ^ longest n a b)) n (a + 2 ^ longest n a b) b (omega arith) (omega arith))

pub pieces_none : (n a b : ℕ) → b ≤ a → pieces n a b ≡ []
unfolding split
pieces_none n a b h = let q : b - a ≡ 0 = omega arith in ap (λ x. split x n a b) q

-- an interval takes at most five cells
pub cells_few : (n j : ℕ) → cells_read n j ≤ 5
cells_few n j = omega arith

-- how far a walk of k intervals has come: it rises while the starts get rounder, and falls once the end is near
abbrev pub Stage : ℕ → ℕ → ℕ → ℕ → Type 0
Stage n k a b = ((a % 2 ^ k ≡ 0) × (k ≤ n + 1)) ⊎ ((c : ℕ) × (a % 2 ^ c ≡ 0) × (b < a + 2 ^ c) × (k + c ≤ 42))

pub stage_few : (n k a b : ℕ) → n ≤ 20 → Stage n k a b → k ≤ 42
stage_few n k a b h s = ⊎_elim (λ p. omega (arith, p.1)) (λ p. omega (arith, p.3)) s

-- what is round at a level is round at each lower one
rounder : (a i k : ℕ) → i ≤ k → a % 2 ^ k ≡ 0 → a % 2 ^ i ≡ 0
rounder a i k h e =
    let q : k ≡ k - i + i = omega arith in
    sym (mod-mod-pow a (k - i) i) ∙ ap (λ x. x % 2 ^ i) (ap (λ y. a % 2 ^ y) (sym q) ∙ e) ∙ zero-mod (2 ^ i)

-- past an odd multiple of 2^j
round_up : (a j : ℕ) → a % 2 ^ j ≡ 0 → (a % 2 ^ suc j ≡ 0 → ⊥) → (a + 2 ^ j) % 2 ^ suc j ≡ 0
round_up a j e ne =
    let q : 1 + j ≡ suc j = omega arith in
    let m : a % 2 ^ suc j ≡ (a / 2 ^ j % 2) * 2 ^ j + a % 2 ^ j = ap (λ x. a % 2 ^ x) (sym q) ∙ mod-pow-add a 1 j in
    let odd : a / 2 ^ j % 2 ≡ 1 = ⊎_elim (λ (z : a / 2 ^ j % 2 ≡ 0). let w = ap (λ x. x * 2 ^ j) z in absurd (ne (omega arith))) (λ (nz : a / 2 ^ j % 2 ≡ 0 → ⊥). omega arith) (cases_eq (a / 2 ^ j % 2) 0) in
    let w = ap (λ x. x * 2 ^ j) odd in
    let r : a % 2 ^ suc j + 2 ^ j ≡ 2 ^ suc j = omega (arith, two-pow-succ j) in
    sym (mod-add-mod a (2 ^ suc j) (2 ^ j)) ∙ ap (λ x. x % 2 ^ suc j) r ∙ mod_self (2 ^ suc j)

round_on : (a j : ℕ) → a % 2 ^ j ≡ 0 → (a + 2 ^ j) % 2 ^ j ≡ 0
round_on a j e = add-mod_right a (2 ^ j) ∙ e

module _ (n k a b j : ℕ) (small : n ≤ 20) (lt : a < b) (inside : b ≤ 2 ^ n) (u : Longest n a b j) where
  -- the end stops a longer one
  ended : (c : ℕ) → j < c → (j < n → a % 2 ^ suc j ≡ 0) → k + c ≤ 42 → Stage n (suc k) (a + 2 ^ j) b
  ended c l e h =
      let s = u.here.ends in
      let low = u.low in
      ⊎_elim
      (λ (lt : j < n).
      inr (
        j,
        round_on a j u.here.aligned,
        ⊎_elim
            (λ (past : b < a + 2 ^ suc j). let p = two-pow-succ j in omega arith)
            (λ (le : a + 2 ^ suc j ≤ b). let z = u.most (suc j) lt (record { aligned = e lt; ends = le }) in absurd (omega arith))
            (cases_lt b (a + 2 ^ suc j)),
        omega arith,
      ))
      (λ (ge : n ≤ j). let q : j ≡ n = omega arith in let p = ap (λ x. 2 ^ x) q in inr (0, omega arith, omega arith, omega arith))
      (cases_lt j n)

  pub stage_more : Stage n k a b → Stage n (suc k) (a + 2 ^ j) b
  stage_more s =
      let low = u.low in
      ⊎_elim
      (λ (p : (a % 2 ^ k ≡ 0) × (k ≤ n + 1)).
      ⊎_elim
      (λ (e : a % 2 ^ suc j ≡ 0). let m = p.1 in ended (suc j) (omega arith) (λ _. e) (omega arith))
      (λ (ne : a % 2 ^ suc j ≡ 0 → ⊥).
      ⊎_elim
      (λ (le : k < suc j). inl (rounder (a + 2 ^ j) (suc k) (suc j) (omega arith) (round_up a j u.here.aligned ne), omega arith))
      (λ (ge : suc j ≤ k). absurd (ne (rounder a (suc j) k ge p.0)))
      (cases_lt k (suc j)))
      (cases_eq (a % 2 ^ suc j) 0))
      (λ (p : (c : ℕ) × (a % 2 ^ c ≡ 0) × (b < a + 2 ^ c) × (k + c ≤ 42)).
      let l : j < p.0 = ⊎_elim (λ (lt : j < p.0). lt) (λ (ge : p.0 ≤ j). let q : 2 ^ p.0 ≤ 2 ^ j = pow_mono {i = p.0} {j = j} ge in let s = u.here.ends in absurd (omega (arith, p.2))) (cases_lt j p.0) in
      ended p.0 l (λ _. rounder a (suc j) p.0 l p.1) p.3)
      s
