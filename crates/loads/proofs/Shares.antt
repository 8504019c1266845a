-- What the transformed buffer holds, and what of it is a coefficient's share.
use Rattle.std.proofs.Common.{◌≡◌, ℕ, zero, suc, ◌+◌, ◌-◌, ◌*◌, ◌/◌, ◌%◌, ◌^◌, ◌<◌, ◌≤◌, List, ◌++◌, length, get_or, take, drop, set, ℤ, pos, ◌+ℤ◌, ◌-ℤ◌, sym, ap, ◌∙◌, subst, ap₂, ⊎_elim, add-zero, mul-le-mul_right, add-mul, mul-suc, sub-one, arith, pow_pos, pow_mono, pow-add, shr_lt}
use native.Mathlib.Nat.{two-pow-succ}
use lib.Signed.{quot_z}
use Rattle.std.proofs.lemmas.List.{get_or-take, get_or-drop, get_or_append_left, get_or-append_right, get_or-set_other, get_or_past}
use Rattle.std.proofs.lemmas.Nat.{one_shl}
use Rattle.std.proofs.lemmas.Int.{ints}
use Rattle.std.proofs.lemmas.Bool.{cases_lt}
use Rattle.haar.specs.Tree.{plain_sum, S, D}
use Rattle.loads.specs.Transform.{haar, unhaar, joined, Near}
use Rattle.loads.specs.Share.{alone, Ready}
use Rattle.haar.proofs.Sums.{halves, D_suc}
use Rattle.haar.proofs.Numbers.{same_pow}
use Rattle.haar.proofs.Split.{shift_suc}
use Rattle.haar.proofs.Load.{shifted_S, shifted_D, down}
use Rattle.loads.proofs.Inverse.{joined_first, joined_other, left_length, right_length, length_haar, low_length, pair_inside, twice_half}

-- another place than 0 and h
joined_else : (h i : ℕ) (zs : List ℤ) → (i ≡ 0 → ⊥) → (i ≡ h → ⊥) → get_or (joined h zs) i (pos 0) ≡ get_or zs i (pos 0)
joined_else h i zs a b =
    get_or-set_other (set zs 0 (get_or zs 0 (pos 0) +ℤ get_or zs h (pos 0))) h i _ (pos 0) b ∙ get_or-set_other zs 0 i _ (pos 0) a

module _ (m : ℕ) (zs : List ℤ) (l : length zs ≡ 2 ^ suc m) where
  left : (i : ℕ) → i < 2 ^ m → alone zs (0 * 2 ^ m + i) ≡ alone (take (2 ^ m) zs) i
  left i h = ap (alone zs) (omega arith) ∙ sym (get_or-take (2 ^ m) zs i (pos 0) h)

  right : (i : ℕ) → i < 2 ^ m → alone zs (1 * 2 ^ m + i) ≡ alone (drop (2 ^ m) zs) i
  right i h = ap (alone zs) (omega arith) ∙ sym (get_or-drop (2 ^ m) zs i (pos 0))

-- the sum at 0, and the difference (j+1,k) at k * 2^(j+1) + 2^j
pub record Tree (m : ℕ) (zs : List ℤ) : Type 0 where
  pub sum : get_or (haar m zs) 0 (pos 0) ≡ S (alone zs) m 0
  pub difference : (j k : ℕ) → suc j ≤ m → k < 2 ^ (m - suc j) → get_or (haar m zs) (k * 2 ^ suc j + 2 ^ j) (pos 0) ≡ D (alone zs) (suc j) k

one_minute : (v : ℕ → ℤ) → S v 0 0 ≡ v 0
unfolding plain_sum
one_minute v = omega (arith, ints)

module _ (m : ℕ) (zs : List ℤ) (l : length zs ≡ 2 ^ suc m) (low : Tree m (take (2 ^ m) zs)) (high : Tree m (drop (2 ^ m) zs)) where
  both : List ℤ
  both = haar m (take (2 ^ m) zs) ++ haar m (drop (2 ^ m) zs)

  low_at : (i : ℕ) → i < 2 ^ m → get_or both i (pos 0) ≡ get_or (haar m (take (2 ^ m) zs)) i (pos 0)
  unfolding both
  low_at i h = get_or_append_left _ _ (pos 0) i (omega (arith, low_length m zs l))

  high_at : (i : ℕ) → get_or both (2 ^ m + i) (pos 0) ≡ get_or (haar m (drop (2 ^ m) zs)) i (pos 0)
  unfolding both
  high_at i = get_or-append_right _ _ (2 ^ m) (2 ^ m + i) (pos 0) (low_length m zs l) (omega arith) ∙ ap (λ x. get_or (haar m (drop (2 ^ m) zs)) x (pos 0)) (omega arith)

  first : get_or both 0 (pos 0) ≡ S (alone zs) m 0
  first = low_at 0 (pow_pos m) ∙ low.sum ∙ sym (shifted_S m 0 m 0 (alone zs) _ (omega arith) (pow_pos (m - m)) (left m zs l)) ∙ ap (S (alone zs) m) (omega arith)

  second : get_or both (2 ^ m) (pos 0) ≡ S (alone zs) m 1
  second =
      ap (λ x. get_or both x (pos 0)) (sym (add-zero (2 ^ m))) ∙ high_at 0 ∙ high.sum ∙ sym (shifted_S m 1 m 0 (alone zs) _ (omega arith) (pow_pos (m - m)) (right m zs l))
      ∙ ap (S (alone zs) m) (omega (arith, same_pow (m - m) 0 (omega arith)))

  inside : 2 ^ m < length both
  unfolding both
  inside = pair_inside m zs l

  sum_up : get_or (joined (2 ^ m) both) 0 (pos 0) ≡ S (alone zs) (suc m) 0
  sum_up = joined_first (2 ^ m) both (pow_pos m) inside ∙ ap₂ ◌+ℤ◌ first second ∙ halves (alone zs) m 0

  difference_top : get_or (joined (2 ^ m) both) (0 * 2 ^ suc m + 2 ^ m) (pos 0) ≡ D (alone zs) (suc m) 0
  difference_top =
      ap (λ x. get_or (joined (2 ^ m) both) x (pos 0)) (omega arith) ∙ joined_other (2 ^ m) both (pow_pos m) inside ∙ ap₂ ◌-ℤ◌ first second ∙ sym (D_suc (alone zs) m 0)

  difference_low : (j k : ℕ) → j < m → k < 2 ^ (suc m - suc j) → get_or (joined (2 ^ m) both) (k * 2 ^ suc j + 2 ^ j) (pos 0) ≡ D (alone zs) (suc j) k
  difference_low j k h b =
      let a = two-pow-succ j in
      let p = pow_pos j in
      let w : 2 ^ m ≡ 2 ^ (m - suc j) * 2 ^ suc j = same_pow m (m - suc j + suc j) (omega arith) ∙ pow-add 2 (m - suc j) (suc j) in
      let d : 2 ^ (suc m - suc j) ≡ 2 ^ (m - suc j) + 2 ^ (m - suc j) = same_pow (suc m - suc j) (suc (m - suc j)) (omega arith) ∙ two-pow-succ (m - suc j) in
      ⊎_elim
      (λ (lt : k < 2 ^ (m - suc j)).
      let f = mul-le-mul_right (2 ^ suc j) lt in
      let i : k * 2 ^ suc j + 2 ^ j < 2 ^ m = omega arith in
      joined_else (2 ^ m) _ both (λ z. omega arith) (λ z. omega arith) ∙ low_at _ i ∙ low.difference j k h lt
      ∙ sym (shifted_D m 0 j k (alone zs) _ h lt (left m zs l)) ∙ ap (D (alone zs) (suc j)) (omega arith))
      (λ (le : 2 ^ (m - suc j) ≤ k).
      let f = mul-le-mul_right (2 ^ suc j) le in
      let k' : k - 2 ^ (m - suc j) < 2 ^ (m - suc j) = omega arith in
      let e : k ≡ 2 ^ (m - suc j) + (k - 2 ^ (m - suc j)) = omega arith in
      let g : k * 2 ^ suc j ≡ 2 ^ (m - suc j) * 2 ^ suc j + (k - 2 ^ (m - suc j)) * 2 ^ suc j = ap (λ x. x * 2 ^ suc j) e ∙ add-mul (2 ^ (m - suc j)) (k - 2 ^ (m - suc j)) (2 ^ suc j) in
      let i : k * 2 ^ suc j + 2 ^ j ≡ 2 ^ m + ((k - 2 ^ (m - suc j)) * 2 ^ suc j + 2 ^ j) = omega arith in
      joined_else (2 ^ m) _ both (λ z. omega arith) (λ z. omega arith) ∙ ap (λ x. get_or both x (pos 0)) i ∙ high_at _ ∙ high.difference j _ h k'
      ∙ sym (shifted_D m 1 j _ (alone zs) _ h k' (right m zs l)) ∙ ap (D (alone zs) (suc j)) (omega arith))
      (cases_lt k (2 ^ (m - suc j)))

  difference_up : (j k : ℕ) → suc j ≤ suc m → k < 2 ^ (suc m - suc j) → get_or (joined (2 ^ m) both) (k * 2 ^ suc j + 2 ^ j) (pos 0) ≡ D (alone zs) (suc j) k
  difference_up j k h b =
      ⊎_elim (λ lt. difference_low j k lt b)
      (λ (le : m ≤ j).
      let e : j ≡ m = omega arith in
      let z : k ≡ 0 = omega (arith, same_pow (suc m - suc j) 0 (omega arith)) in
      subst (λ x. get_or (joined (2 ^ m) both) (k * 2 ^ suc x + 2 ^ x) (pos 0) ≡ D (alone zs) (suc x) k) (sym e)
      (subst (λ x. get_or (joined (2 ^ m) both) (x * 2 ^ suc m + 2 ^ m) (pos 0) ≡ D (alone zs) (suc m) x) (sym z) difference_top))
      (cases_lt j m)

pub tree : (m : ℕ) (zs : List ℤ) → length zs ≡ 2 ^ m → Tree m zs
unfolding both
tree zero zs l = record { sum = sym (one_minute (alone zs)); difference = λ j k h b. absurd (omega arith) }
tree (suc m) zs l =
    let a = tree m (take (2 ^ m) zs) (left_length m zs l) in
    let b = tree m (drop (2 ^ m) zs) (right_length m zs l) in
    record { sum = sum_up m zs l a b; difference = difference_up m zs l a b }

-- ---- a buffer that is ready

ready_tree : (m : ℕ) (hs : List ℤ) → Ready m hs → Tree m (unhaar m hs)
ready_tree m hs r = tree m (unhaar m hs) r.many

pub ready_length : (m : ℕ) (hs : List ℤ) → Ready m hs → length hs ≡ 2 ^ m
ready_length m hs r = ap length r.image ∙ length_haar m (unhaar m hs) r.many

pub ready_sum : (m : ℕ) (hs : List ℤ) → Ready m hs → get_or hs 0 (pos 0) ≡ S (alone (unhaar m hs)) m 0
ready_sum m hs r = ap (λ x. get_or x 0 (pos 0)) r.image ∙ (ready_tree m hs r).sum

pub ready_difference : (m : ℕ) (hs : List ℤ) (j k : ℕ) → Ready m hs → 1 ≤ j → j ≤ m → k < 2 ^ (m - j) → get_or hs (k * 2 ^ j + 2 ^ (j - 1)) (pos 0) ≡ D (alone (unhaar m hs)) j k
ready_difference m hs zero k r a h b = absurd (omega arith)
ready_difference m hs (suc j) k r a h b =
    ap (λ x. get_or hs (k * 2 ^ suc j + 2 ^ x) (pos 0)) (sub-one (suc j)) ∙ ap (λ x. get_or x (k * 2 ^ suc j + 2 ^ j) (pos 0)) r.image ∙ (ready_tree m hs r).difference j k h b

-- the place of a difference is in the buffer
pub place_in : (m j k : ℕ) → 1 ≤ j → j ≤ m → k < 2 ^ (m - j) → k * 2 ^ j + 2 ^ (j - 1) < 2 ^ m
place_in m zero k a h b = absurd (omega arith)
place_in m (suc j) k a h b =
    let w : 2 ^ m ≡ 2 ^ (m - suc j) * 2 ^ suc j = same_pow m (m - suc j + suc j) (omega arith) ∙ pow-add 2 (m - suc j) (suc j) in
    let f = mul-le-mul_right (2 ^ suc j) b in
    let e = same_pow (suc j - 1) j (sub-one (suc j)) in
    omega (arith, two-pow-succ j, pow_pos j)

-- sums stay small
total_near : (f : ℕ → ℤ) (b a len : ℕ) → ((i : ℕ) → Near b (f i)) → Near (b * len) (plain_sum f a len)
unfolding plain_sum
total_near f b a zero h = (omega (arith, ints), omega (arith, ints))
total_near f b a (suc len) h =
    let n = h (a + len) in
    let t = total_near f b a len h in
    let e : b * suc len ≡ b * len + b = mul-suc b len in
    rw e (omega (arith, ints), omega (arith, ints))

alone_near : (m : ℕ) (hs : List ℤ) → Ready m hs → (i : ℕ) → Near (2 ^ 31) (alone (unhaar m hs) i)
alone_near m hs r i =
    ⊎_elim (λ lt. r.small i lt)
    (λ le. rw (get_or_past (unhaar m hs) i (pos 0) le) (omega (arith, ints), omega (arith, ints)))
    (cases_lt i (length (unhaar m hs)))

pub sum_near : (m : ℕ) (hs : List ℤ) (j k : ℕ) → Ready m hs → m ≤ 12 → j ≤ m → Near (2 ^ 43) (S (alone (unhaar m hs)) j k)
sum_near m hs j k r h l =
    let t = total_near (alone (unhaar m hs)) (2 ^ 31) (k * 2 ^ j) (2 ^ j) (alone_near m hs r) in
    let p : 2 ^ j ≤ 2 ^ 12 = pow_mono {i = j} {j = 12} (omega arith) in
    (omega (arith, ints), omega (arith, ints))

pub difference_near : (m : ℕ) (hs : List ℤ) (j k : ℕ) → Ready m hs → m ≤ 12 → j ≤ m → Near (2 ^ 61) (D (alone (unhaar m hs)) j k)
difference_near m hs j k r h l =
    let a = sum_near m hs (j - 1) (2 * k) r h (omega arith) in
    let b = sum_near m hs (j - 1) (2 * k + 1) r h (omega arith) in
    (omega (arith, ints), omega (arith, ints))

-- the code's place of a difference
pub shifted_place : (j k : ℕ) → j < 64 → k * (1 * 2 ^ j % 2 ^ 64) + 1 * 2 ^ (j - 1) % 2 ^ 64 ≡ k * 2 ^ j + 2 ^ (j - 1)
shifted_place j k h = ap₂ (λ x y. k * x + y) (one_shl j 64 h) (one_shl (j - 1) 64 (omega arith))

-- one step down to the half that index q picks
step_left : (v : ℕ → ℤ) (r q : ℕ) → q % 2 ≡ 0 → quot_z (S v (suc r) (q / 2) +ℤ D v (suc r) (q / 2)) (pos 2) ≡ S v r q
step_left v r q e =
    let d = down v r q in
    let f : S v (suc r) (q / 2) +ℤ D v (suc r) (q / 2) ≡ S v r q +ℤ S v r q = omega (arith, ints, d.0 e) in
    rw f (twice_half (S v r q))

step_right : (v : ℕ → ℤ) (r q : ℕ) → (q % 2 ≡ 0 → ⊥) → quot_z (S v (suc r) (q / 2) -ℤ D v (suc r) (q / 2)) (pos 2) ≡ S v r q
step_right v r q e =
    let d = down v r q in
    let f : S v (suc r) (q / 2) -ℤ D v (suc r) (q / 2) ≡ S v r q +ℤ S v r q = omega (arith, ints, d.1 (omega arith)) in
    rw f (twice_half (S v r q))

-- the same from level `at` of a descent to the interval (level, index)
module _ (v : ℕ → ℤ) (level index : ℕ) where
  over : ℕ → ℕ
  over at = index / 2 ^ (at - level)

  turned : (r : ℕ) → level < suc r → over (suc r) ≡ over (suc r - 1) / 2
  unfolding over
  turned r h = let x : suc r - level ≡ suc (suc r - 1 - level) = omega arith in ap (λ z. index / 2 ^ z) x ∙ shift_suc index (suc r - 1 - level)

  pub down_left : (at : ℕ) (s d : ℤ) → level < at → s ≡ S v at (index / 2 ^ (at - level)) → d ≡ D v (at - 1 + 1) (index / 2 ^ (at - 1 + 1 - level)) → index / 2 ^ (at - 1 - level) % 2 ≡ 0 → quot_z (s +ℤ d) (pos 2) ≡ S v (at - 1) (index / 2 ^ (at - 1 - level))
  unfolding over
  down_left zero s d h e f g = absurd (omega arith)
  down_left (suc r) s d h e f g =
      let z : suc r - 1 + 1 ≡ suc r = omega arith in
      let y = turned r h in
      ap₂ (λ a b. quot_z (a +ℤ b) (pos 2)) (e ∙ ap (S v (suc r)) y) (f ∙ ap (λ x. D v x (index / 2 ^ (x - level))) z ∙ ap (D v (suc r)) y) ∙ step_left v r _ g ∙ ap (λ x. S v x (index / 2 ^ (suc r - 1 - level))) (sym (sub-one (suc r)))

  pub down_right : (at : ℕ) (s d : ℤ) → level < at → s ≡ S v at (index / 2 ^ (at - level)) → d ≡ D v (at - 1 + 1) (index / 2 ^ (at - 1 + 1 - level)) → (index / 2 ^ (at - 1 - level) % 2 ≡ 0 → ⊥) → quot_z (s -ℤ d) (pos 2) ≡ S v (at - 1) (index / 2 ^ (at - 1 - level))
  unfolding over
  down_right zero s d h e f g = absurd (omega arith)
  down_right (suc r) s d h e f g =
      let z : suc r - 1 + 1 ≡ suc r = omega arith in
      let y = turned r h in
      ap₂ (λ a b. quot_z (a -ℤ b) (pos 2)) (e ∙ ap (S v (suc r)) y) (f ∙ ap (λ x. D v x (index / 2 ^ (x - level))) z ∙ ap (D v (suc r)) y) ∙ step_right v r _ g ∙ ap (λ x. S v x (index / 2 ^ (suc r - 1 - level))) (sym (sub-one (suc r)))

-- an index below a level, seen from a level above
pub index_up : (chunk at level index : ℕ) → level ≤ at → at ≤ chunk → index < 2 ^ (chunk - level) → index / 2 ^ (at - level) < 2 ^ (chunk - at)
index_up chunk at level index a b h =
    let e : chunk - level ≡ (chunk - at) + (at - level) = omega arith in
    shr_lt (chunk - at) (at - level) (rw (← e) h)
