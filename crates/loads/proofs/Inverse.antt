use Rattle.std.proofs.Common.{◌≡◌, ℕ, zero, suc, ◌+◌, ◌-◌, ◌*◌, ◌/◌, ◌^◌, ◌<◌, ◌≤◌, ◌≢◌, List, ◌++◌, length, get_or, take, drop, set, ℤ, pos, negsuc, ◌+ℤ◌, ◌-ℤ◌, neg_ℤ, sym, refl, ap, ◌∙◌, subst, inl, inr, mul_assoc, arith, pow_pos, pow_mono}
use native.Mathlib.Nat.{two-pow-succ}
use lib.Signed.{quot_z}
use Rattle.std.proofs.lemmas.Bool.Decides.{eqb_tells, leb_tells}
use Rattle.std.proofs.lemmas.Int.{ints}
use Rattle.std.proofs.lemmas.List.{ext_get_or, length-set, length-take-le, length-drop, length-append, get_or-set_same, get_or-set_other, get_or-take, get_or-drop, get_or_append_left, get_or-append_right, take-append-drop}
use lib.Seq.{take-append_seam, drop-append_seam}
use Rattle.loads.specs.Transform.{joined, parted, haar, unhaar, Near, Within}

-- ---- lists

pub front : (h : ℕ) (xs ys : List ℤ) → length xs ≡ h → take h (xs ++ ys) ≡ xs
front h xs ys e = subst (λ (n : ℕ). take n (xs ++ ys) ≡ xs) e (take-append_seam xs ys)

pub rear : (h : ℕ) (xs ys : List ℤ) → length xs ≡ h → drop h (xs ++ ys) ≡ ys
rear h xs ys e = subst (λ (n : ℕ). drop n (xs ++ ys) ≡ ys) e (drop-append_seam xs ys)

-- ---- bounds

pub within_take : (b k : ℕ) (zs : List ℤ) → k ≤ length zs → Within b zs → Within b (take k zs)
within_take b k zs l w i h =
    let t : length (take k zs) ≡ k = length-take-le k zs l in
    let ik : i < k = omega arith in
    let P : ℤ → Type 0 = λ z. Near b z in
    subst P (sym (get_or-take k zs i (pos 0) ik)) (w i (omega arith))

pub within_drop : (b k : ℕ) (zs : List ℤ) → Within b zs → Within b (drop k zs)
within_drop b k zs w i h =
    let P : ℤ → Type 0 = λ z. Near b z in
    subst P (sym (get_or-drop k zs i (pos 0))) (w (k + i) (omega (arith, length-drop k zs)))

pub within_append : (b : ℕ) (xs ys : List ℤ) → Within b xs → Within b ys → Within b (xs ++ ys)
within_append b xs ys v w i h =
    let P : ℤ → Type 0 = λ z. Near b z in
    elim (leb_tells (length xs) i) [
      | inl t ↦ subst P (sym (get_or-append_right xs ys (length xs) i (pos 0) refl t.1)) (w (i - length xs) (omega (arith, length-append xs ys)))
      | inr t ↦ subst P (sym (get_or_append_left xs ys (pos 0) i t.1)) (v i t.1)
    ]

within_set : (b i : ℕ) (z : ℤ) (xs : List ℤ) → Near b z → Within b xs → Within b (set xs i z)
within_set b i z xs n w k h =
    let P : ℤ → Type 0 = λ y. Near b y in
    let kl : k < length xs = omega (arith, length-set xs i z) in
    elim (eqb_tells k i) [
      | inl t ↦ let il : i < length xs = omega (arith, t.1) in
          subst P (sym (ap (λ (x : ℕ). get_or (set xs i z) x (pos 0)) t.1 ∙ get_or-set_same xs i z (pos 0) il)) n
      | inr t ↦ subst P (sym (get_or-set_other xs i k z (pos 0) t.1)) (w k kl)
    ]

pub within_more : (b d : ℕ) (xs : List ℤ) → b ≤ d → Within b xs → Within d xs
within_more b d xs l w k h = let n = w k h in (omega (arith, ints), omega (arith, ints))

near_sum : (b : ℕ) (x y : ℤ) → Near b x → Near b y → Near (b * 2) (x +ℤ y)
near_sum b x y n m = (omega (arith, ints), omega (arith, ints))

pub near_difference : (b : ℕ) (x y : ℤ) → Near b x → Near b y → Near (b * 2) (x -ℤ y)
near_difference b x y n m = (omega (arith, ints), omega (arith, ints))

-- ---- one pair, there and back

pub twice_half : (a : ℤ) → quot_z (a +ℤ a) (pos 2) ≡ a
twice_half (pos n) = ap (λ (k : ℕ). pos k) (omega arith)
twice_half (negsuc n) = let e : suc (suc (n + n)) / 2 ≡ suc n = omega arith in ap (λ (k : ℕ). neg_ℤ (pos k)) e

first_back : (a b : ℤ) → quot_z ((a +ℤ b) +ℤ (a -ℤ b)) (pos 2) ≡ a
first_back a b = let e : (a +ℤ b) +ℤ (a -ℤ b) ≡ a +ℤ a = omega (arith, ints) in ap (λ (z : ℤ). quot_z z (pos 2)) e ∙ twice_half a

second_back : (a b : ℤ) → quot_z ((a +ℤ b) -ℤ (a -ℤ b)) (pos 2) ≡ b
second_back a b = let e : (a +ℤ b) -ℤ (a -ℤ b) ≡ b +ℤ b = omega (arith, ints) in ap (λ (z : ℤ). quot_z z (pos 2)) e ∙ twice_half b

pub joined_first : (h : ℕ) (zs : List ℤ) → 0 < h → h < length zs → get_or (joined h zs) 0 (pos 0) ≡ get_or zs 0 (pos 0) +ℤ get_or zs h (pos 0)
joined_first h zs p l =
    let ne : 0 ≢ h = omega arith in
    let z : 0 < length zs = omega arith in
    get_or-set_other (set zs 0 (get_or zs 0 (pos 0) +ℤ get_or zs h (pos 0))) h 0 _ (pos 0) ne ∙ get_or-set_same zs 0 _ (pos 0) z

pub joined_other : (h : ℕ) (zs : List ℤ) → 0 < h → h < length zs → get_or (joined h zs) h (pos 0) ≡ get_or zs 0 (pos 0) -ℤ get_or zs h (pos 0)
joined_other h zs p l =
    get_or-set_same (set zs 0 (get_or zs 0 (pos 0) +ℤ get_or zs h (pos 0))) h _ (pos 0) (omega (arith, length-set zs 0 (get_or zs 0 (pos 0) +ℤ get_or zs h (pos 0))))

-- four writes that put back what stood there
put_back : (h : ℕ) (zs : List ℤ) (s d : ℤ) → 0 < h → h < length zs → set (set (set (set zs 0 s) h d) 0 (get_or zs 0 (pos 0))) h (get_or zs h (pos 0)) ≡ zs
put_back h zs s d p l =
    let js = set (set zs 0 s) h d in
    let l1 : length js ≡ length zs = length-set (set zs 0 s) h d ∙ length-set zs 0 s in
    let ks = set js 0 (get_or zs 0 (pos 0)) in
    let l2 : length ks ≡ length zs = length-set js 0 (get_or zs 0 (pos 0)) ∙ l1 in
    ext_get_or (pos 0) (set ks h (get_or zs h (pos 0))) zs (length-set ks h (get_or zs h (pos 0)) ∙ l2) (λ i il.
    elim (eqb_tells i h) [
      | inl t ↦ ap (λ (x : ℕ). get_or (set ks h (get_or zs h (pos 0))) x (pos 0)) t.1 ∙ get_or-set_same ks h (get_or zs h (pos 0)) (pos 0) (omega arith) ∙ ap (λ (x : ℕ). get_or zs x (pos 0)) (sym t.1)
      | inr t ↦ get_or-set_other ks h i (get_or zs h (pos 0)) (pos 0) t.1 ∙ elim (eqb_tells i 0) [
        | inl u ↦ ap (λ (x : ℕ). get_or ks x (pos 0)) u.1 ∙ get_or-set_same js 0 (get_or zs 0 (pos 0)) (pos 0) (omega arith) ∙ ap (λ (x : ℕ). get_or zs x (pos 0)) (sym u.1)
        | inr u ↦ get_or-set_other js 0 i (get_or zs 0 (pos 0)) (pos 0) u.1 ∙ get_or-set_other (set zs 0 s) h i d (pos 0) t.1 ∙ get_or-set_other zs 0 i s (pos 0) u.1
      ]
    ])

parted_joined : (h : ℕ) (zs : List ℤ) → 0 < h → h < length zs → parted h (joined h zs) ≡ zs
parted_joined h zs p l =
    let a = get_or zs 0 (pos 0) in
    let b = get_or zs h (pos 0) in
    let e0 = joined_first h zs p l in
    let eh = joined_other h zs p l in
    let f : quot_z (get_or (joined h zs) 0 (pos 0) +ℤ get_or (joined h zs) h (pos 0)) (pos 2) ≡ a = ap (λ (z : ℤ). quot_z (z +ℤ get_or (joined h zs) h (pos 0)) (pos 2)) e0 ∙ ap (λ (z : ℤ). quot_z ((a +ℤ b) +ℤ z) (pos 2)) eh ∙ first_back a b in
    let g : quot_z (get_or (joined h zs) 0 (pos 0) -ℤ get_or (joined h zs) h (pos 0)) (pos 2) ≡ b = ap (λ (z : ℤ). quot_z (z -ℤ get_or (joined h zs) h (pos 0)) (pos 2)) e0 ∙ ap (λ (z : ℤ). quot_z ((a +ℤ b) -ℤ z) (pos 2)) eh ∙ second_back a b in
    ap (λ (z : ℤ). set (set (joined h zs) 0 z) h (quot_z (get_or (joined h zs) 0 (pos 0) -ℤ get_or (joined h zs) h (pos 0)) (pos 2))) f
    ∙ ap (λ (z : ℤ). set (set (joined h zs) 0 a) h z) g
    ∙ put_back h zs (a +ℤ b) (a -ℤ b) p l

-- ---- the whole transform

pub length_joined : (h : ℕ) (zs : List ℤ) → length (joined h zs) ≡ length zs
length_joined h zs = length-set (set zs 0 (get_or zs 0 (pos 0) +ℤ get_or zs h (pos 0))) h _ ∙ length-set zs 0 _

-- the halves of 2^(m+1) numbers
module _ (m : ℕ) (zs : List ℤ) (l : length zs ≡ 2 ^ suc m) where
  pub left_length : length (take (2 ^ m) zs) ≡ 2 ^ m
  left_length = length-take-le (2 ^ m) zs (omega (arith, two-pow-succ m))

  pub right_length : length (drop (2 ^ m) zs) ≡ 2 ^ m
  right_length = length-drop (2 ^ m) zs ∙ omega (arith, two-pow-succ m)

pub length_haar : (m : ℕ) (zs : List ℤ) → length zs ≡ 2 ^ m → length (haar m zs) ≡ 2 ^ m
length_haar zero zs l = l
length_haar (suc m) zs l =
    let a = length_haar m (take (2 ^ m) zs) (left_length m zs l) in
    let b = length_haar m (drop (2 ^ m) zs) (right_length m zs l) in
    length_joined (2 ^ m) (haar m (take (2 ^ m) zs) ++ haar m (drop (2 ^ m) zs)) ∙ length-append (haar m (take (2 ^ m) zs)) (haar m (drop (2 ^ m) zs)) ∙ omega (arith, two-pow-succ m)

-- the trees of the halves, before they are joined
module _ (m : ℕ) (zs : List ℤ) (l : length zs ≡ 2 ^ suc m) where
  pub low_length : length (haar m (take (2 ^ m) zs)) ≡ 2 ^ m
  low_length = length_haar m (take (2 ^ m) zs) (left_length m zs l)

  pub pair_inside : 2 ^ m < length (haar m (take (2 ^ m) zs) ++ haar m (drop (2 ^ m) zs))
  pair_inside = omega (arith, low_length, length_haar m (drop (2 ^ m) zs) (right_length m zs l), length-append (haar m (take (2 ^ m) zs)) (haar m (drop (2 ^ m) zs)), pow_pos m)

within_joined : (b h : ℕ) (zs : List ℤ) → h < length zs → Within b zs → Within (b * 2) (joined h zs)
within_joined b h zs l w =
    let n0 = w 0 (omega arith) in
    let nh = w h l in
    within_set (b * 2) h _ (set zs 0 _) (near_difference b _ _ n0 nh)
    (within_set (b * 2) 0 _ zs (near_sum b _ _ n0 nh) (within_more b (b * 2) zs (omega arith) w))

pub within_haar : (m b : ℕ) (zs : List ℤ) → length zs ≡ 2 ^ m → Within b zs → Within (b * 2 ^ m) (haar m zs)
within_haar zero b zs l w = within_more b (b * 1) zs (omega arith) w
within_haar (suc m) b zs l w =
    let q : b * 2 ^ m * 2 ≡ b * 2 ^ suc m = mul_assoc b (2 ^ m) 2 ∙ ap (λ (x : ℕ). b * x) (omega (arith, two-pow-succ m)) in
    let P : ℕ → Type 0 = λ d. Within d (haar (suc m) zs) in
    subst P q
    (within_joined (b * 2 ^ m) (2 ^ m) _ (pair_inside m zs l)
    (within_append (b * 2 ^ m) _ _ (within_haar m b (take (2 ^ m) zs) (left_length m zs l) (within_take b (2 ^ m) zs (omega (arith, two-pow-succ m)) w))
    (within_haar m b (drop (2 ^ m) zs) (right_length m zs l) (within_drop b (2 ^ m) zs w))))

pub back_haar : (m : ℕ) (zs : List ℤ) → length zs ≡ 2 ^ m → unhaar m (haar m zs) ≡ zs
back_haar zero zs l = refl
back_haar (suc m) zs l =
    let A = haar m (take (2 ^ m) zs) in
    let B = haar m (drop (2 ^ m) zs) in
    let la = low_length m zs l in
    ap (λ (x : List ℤ). unhaar m (take (2 ^ m) x) ++ unhaar m (drop (2 ^ m) x)) (parted_joined (2 ^ m) (A ++ B) (pow_pos m) (pair_inside m zs l))
    ∙ ap (λ (x : List ℤ). unhaar m x ++ unhaar m (drop (2 ^ m) (A ++ B))) (front (2 ^ m) A B la)
    ∙ ap (λ (x : List ℤ). unhaar m A ++ unhaar m x) (rear (2 ^ m) A B la)
    ∙ ap (λ (x : List ℤ). x ++ unhaar m B) (back_haar m (take (2 ^ m) zs) (left_length m zs l))
    ∙ ap (λ (x : List ℤ). take (2 ^ m) zs ++ x) (back_haar m (drop (2 ^ m) zs) (right_length m zs l))
    ∙ take-append-drop (2 ^ m) zs

-- back within 2^61, whatever the numbers
near_half : (b : ℕ) (z : ℤ) → Near (b * 2) z → Near b (quot_z z (pos 2))
near_half b (pos n) h = (omega (arith, ints), omega (arith, ints))
near_half b (negsuc n) h = (omega (arith, ints), omega (arith, ints))

pub length_parted : (h : ℕ) (zs : List ℤ) → length (parted h zs) ≡ length zs
length_parted h zs = length-set (set zs 0 _) h _ ∙ length-set zs 0 _

pub within_parted : (b h : ℕ) (zs : List ℤ) → h < length zs → Within b zs → Within b (parted h zs)
within_parted b h zs l w =
    let n0 = w 0 (omega arith) in
    let nh = w h l in
    within_set b h _ (set zs 0 _) (near_half b _ (near_difference b _ _ n0 nh)) (within_set b 0 _ zs (near_half b _ (near_sum b _ _ n0 nh)) w)

pub within_unhaar : (m b : ℕ) (zs : List ℤ) → length zs ≡ 2 ^ m → Within b zs → (length (unhaar m zs) ≡ 2 ^ m) × Within b (unhaar m zs)
within_unhaar zero b zs l w = (l, w)
within_unhaar (suc m) b zs l w =
    let ps = parted (2 ^ m) zs in
    let lp : length ps ≡ 2 ^ suc m = length_parted (2 ^ m) zs ∙ l in
    let wp = within_parted b (2 ^ m) zs (omega (arith, two-pow-succ m, pow_pos m)) w in
    let x = within_unhaar m b (take (2 ^ m) ps) (left_length m ps lp) (within_take b (2 ^ m) ps (omega (arith, two-pow-succ m)) wp) in
    let y = within_unhaar m b (drop (2 ^ m) ps) (right_length m ps lp) (within_drop b (2 ^ m) ps wp) in
    (length-append (unhaar m (take (2 ^ m) ps)) (unhaar m (drop (2 ^ m) ps)) ∙ omega (arith, x.0, y.0, two-pow-succ m), within_append b _ _ x.1 y.1)

-- ---- a buffer and its halves

module _ (m h : ℕ) (zs : List ℤ) (p : 0 < m) (l : length zs ≡ 2 ^ m) (e : h ≡ length zs / 2) where
  up : suc (m - 1) ≡ m
  up = omega arith

  twice : length zs ≡ 2 ^ (m - 1) + 2 ^ (m - 1)
  twice = l ∙ ap (λ (k : ℕ). 2 ^ k) (sym up) ∙ two-pow-succ (m - 1)

  is_half : h ≡ 2 ^ (m - 1)
  is_half = omega (arith, twice)

  pub between : (0 < h) × (h < length zs)
  between = (omega (arith, is_half, pow_pos (m - 1)), omega (arith, twice, is_half, pow_pos (m - 1)))

  pub low_half : (b : ℕ) (lo : List ℤ) → Within b zs → lo ≡ take h zs → (length lo ≡ 2 ^ (m - 1)) × Within b lo
  low_half b lo w f =
      let hl : h ≤ length zs = omega (arith, between.1) in
      (ap length f ∙ length-take-le h zs hl ∙ is_half, subst (Within b) (sym f) (within_take b h zs hl w))

  pub high_half : (b : ℕ) (hi : List ℤ) → Within b zs → hi ≡ drop h zs → (length hi ≡ 2 ^ (m - 1)) × Within b hi
  high_half b hi w f = (ap length f ∙ length-drop h zs ∙ omega (arith, twice, is_half), subst (Within b) (sym f) (within_drop b h zs w))

  module _ (lo hi lo' hi' : List ℤ) (f : lo ≡ take h zs) (g : hi ≡ drop h zs) (f' : lo' ≡ haar (m - 1) lo) (g' : hi' ≡ haar (m - 1) hi) where
    pub joined_haar : joined h (lo' ++ hi') ≡ haar m zs
    joined_haar =
        cc (is_half, ap (λ (k : ℕ). haar k zs) (sym up))

    pub joinable : m ≤ 12 → Within (2 ^ 31) zs → (0 < h) × ((h < length (lo' ++ hi')) × Within (2 ^ 61) (lo' ++ hi'))
    joinable k w =
        let a = low_half (2 ^ 31) lo w f in
        let b = high_half (2 ^ 31) hi w g in
        let la : length lo' ≡ 2 ^ (m - 1) = ap length f' ∙ length_haar (m - 1) lo a.0 in
        let lb : length hi' ≡ 2 ^ (m - 1) = ap length g' ∙ length_haar (m - 1) hi b.0 in
        let wa : Within (2 ^ 31 * 2 ^ (m - 1)) lo' = subst (Within (2 ^ 31 * 2 ^ (m - 1))) (sym f') (within_haar (m - 1) (2 ^ 31) lo a.0 a.1) in
        let wb : Within (2 ^ 31 * 2 ^ (m - 1)) hi' = subst (Within (2 ^ 31 * 2 ^ (m - 1))) (sym g') (within_haar (m - 1) (2 ^ 31) hi b.0 b.1) in
        let big : 2 ^ (m - 1) ≤ 2 ^ 12 = pow_mono {j = 12} (omega arith) in
        let pp = pow_pos (m - 1) in
        let lab = length-append lo' hi' in
        (between.0, (omega (arith, is_half), within_more (2 ^ 31 * 2 ^ (m - 1)) (2 ^ 61) (lo' ++ hi') (omega arith) (within_append (2 ^ 31 * 2 ^ (m - 1)) lo' hi' wa wb)))

  -- once the first pair came back
  whole : (b : ℕ) (ps : List ℤ) → Within b zs → ps ≡ parted h zs → (length ps ≡ 2 ^ m) × Within b ps
  whole b ps w d = (ap length d ∙ length_parted h zs ∙ l, subst (Within b) (sym d) (within_parted b h zs between.1 w))

  pub parted_unhaar : (ps lo hi lo' hi' : List ℤ) → ps ≡ parted h zs → lo ≡ take h ps → hi ≡ drop h ps → lo' ≡ unhaar (m - 1) lo → hi' ≡ unhaar (m - 1) hi → lo' ++ hi' ≡ unhaar m zs
  parted_unhaar ps lo hi lo' hi' d f g f' g' =
      cc (is_half, ap (λ (k : ℕ). unhaar k zs) (sym up))

module _ (m h : ℕ) (zs ps : List ℤ) (p : 0 < m) (l : length zs ≡ 2 ^ m) (e : h ≡ length zs / 2) (d : ps ≡ parted h zs) (b : ℕ) (w : Within b zs) where
  still : h ≡ length ps / 2
  still = e ∙ ap (λ (k : ℕ). k / 2) (sym (ap length d ∙ length_parted h zs))

  pub low_back : (lo : List ℤ) → lo ≡ take h ps → (length lo ≡ 2 ^ (m - 1)) × Within b lo
  low_back lo f = let k = whole m h zs p l e b ps w d in low_half m h ps p k.0 still b lo k.1 f

  pub high_back : (hi : List ℤ) → hi ≡ drop h ps → (length hi ≡ 2 ^ (m - 1)) × Within b hi
  high_back hi g = let k = whole m h zs p l e b ps w d in high_half m h ps p k.0 still b hi k.1 g
