-- The cells of a growth, and writing the total to them.
use Rattle.std.proofs.Common.{◌≡◌, ℕ, zero, suc, ◌+◌, ◌-◌, ◌*◌, ◌/◌, ◌<◌, ◌≤◌, ◌^◌, min, Bool, true, false, cond, [], ◌∷◌, ℤ, pos, ◌+ℤ◌, ◌≤ℤ◌, Some, None, Option, sym, refl, ap, ◌∙◌, subst, inl, inr, ⊎_elim, ◌⊎◌, arith, pow_pos, pow-suc}
use Rattle.std.proofs.lemmas.Int.{ints}
use Rattle.std.proofs.lemmas.Bool.{cases_eq}
use Rattle.std.proofs.lemmas.Bool.Decides.{nat_tests}
use Rattle.std.proofs.lemmas.List.Elements.{All-nil, All-cons}
use Rattle.haar.specs.declared.coefficient.Coefficient.TheVariants.{TileSum, Difference}
use Rattle.haar.specs.Tiles.{depth, tiles_before, cell_count, Inside}
use Rattle.haar.specs.Count.{bands_in_use}
use Rattle.haar.specs.Growth.{Fills}
use Rattle.haar.proofs.Numbers.{one_coefficient, inside_below}
use Rattle.store.specs.declared.entry.Entry.{Entry}
use Rattle.store.specs.Meaning.{Meaning, weight, filled, Bars, Put}
use Rattle.store.specs.Writing.{entry, Rising}
use Rattle.store.proofs.Counting.{put_keeps}
use Rattle.warehouse.specs.View.{View, view}
use Rattle.loads.specs.Loads.{Small}
use Rattle.loads.specs.Growing.{total_cell, top_cell, tile_cell, fills, newly, total_of, total_writes, Topped, Grew}

module _ (T n : ℕ) (below : n < 4 * T) where
  total_inside : Inside n (TileSum (bands_in_use n - 1) 0)
  total_inside = (⊎_elim (λ (z : bands_in_use n - 1 ≡ 0). inl z) (λ ne. inr (omega arith)) (cases_eq (bands_in_use n - 1) 0), omega (arith, pow_pos n))

  top_inside : Inside (suc n) (Difference (suc n) 0)
  top_inside = (omega arith, omega arith, pow_pos (suc n - suc n))

  tile_inside : Fills n → Inside (suc n) (TileSum (n / 4) 0)
  tile_inside f = (inr (omega arith), omega (arith, pow_pos (suc n)))

  pub total_below : total_cell T n < cell_count T
  total_below = inside_below T n (TileSum (bands_in_use n - 1) 0) (omega arith) (omega arith) total_inside

  pub top_below : top_cell T n < cell_count T
  top_below = inside_below T (suc n) (Difference (suc n) 0) (omega arith) (omega arith) top_inside

  pub tile_below : Fills n → tile_cell T n < cell_count T
  tile_below f = inside_below T (suc n) (TileSum (n / 4) 0) (omega arith) (omega arith) (tile_inside f)

  pub apart : Fills n → top_cell T n ≡ tile_cell T n → ⊥
  apart f e =
      let s = one_coefficient T (suc n) (Difference (suc n) 0) (TileSum (n / 4) 0) (omega arith) (omega arith) top_inside (tile_inside f) e in
      let z : ◌≡◌ {A = ℕ} 0 1 = cc in
      omega arith

pub fills_is : (n : ℕ) → fills n ≡ true → Fills n
fills_is n e = grind (arith, nat_tests)

pub fills_not : (n : ℕ) → fills n ≡ false → Fills n → ⊥
fills_not n e f = let a = f.0 in let b = f.1 in grind (arith, nat_tests)

-- in the tile that comes in use, slot 0 is below the difference on top
tile_first : (T n : ℕ) → n < 4 * T → Fills n → tile_cell T n < top_cell T n
tile_first zero n below f = absurd (omega arith)
tile_first (suc top) n below f =
    let e : (suc n - 1) / 4 ≡ n / 4 = omega arith in
    omega (arith, ap (λ t. tiles_before (top - t)) e, pow_pos (depth (suc n)))

rises : (T n : ℕ) (z : ℤ) → n < 4 * T → (b : Bool) → fills n ≡ b
    → Rising (cond b (entry (tile_cell T n) z ∷ entry (top_cell T n) z ∷ []) (entry (top_cell T n) z ∷ []))
rises T n z below true e =
    let P : Entry → Type 0 = λ w. tile_cell T n < w.cell in
    (All-cons P (entry (top_cell T n) z) [] (tile_first T n below (fills_is n e)) (All-nil P), (All-nil (λ w. top_cell T n < w.cell), tt))
rises T n z below false e = (All-nil (λ w. top_cell T n < w.cell), tt)

pub total_rises : (T n : ℕ) (z : ℤ) → n < 4 * T → Rising (total_writes T n z)
total_rises T n z below = rises T n z below (fills n) refl

-- which cells there are
pub some_tile : (b : Bool) (at tile : ℕ) (o : Option ℕ) → o ≡ cond b (Some at) None → o ≡ Some tile → (b ≡ true) × (tile ≡ at)
some_tile true at tile o e f = (refl, cc)
some_tile false at tile o e f = absurd (let z : ◌≡◌ {A = ℕ} 0 1 = cc in omega arith)

pub none_tile : (b : Bool) (at : ℕ) (o : Option ℕ) → o ≡ cond b (Some at) None → o ≡ None → b ≡ false
none_tile true at o e f = absurd (let z : ◌≡◌ {A = ℕ} 0 1 = cc in omega arith)
none_tile false at o e f = refl

-- a growth that writes one cell
module _ (m m' : Meaning) (n : ℕ) (total : ℤ) (below : n < 4 * m.bands) (no_tile : fills n ≡ false) where
  pub free_alone : pos (newly m.bands n total m.cells) ≤ℤ m.room → Bars m (top_cell m.bands n) total → ⊥
  free_alone r b =
      let u : newly m.bands n total m.cells ≡ (weight total - weight (m.cells (top_cell m.bands n))) + 0 = ap (λ x. (weight total - weight (m.cells (top_cell m.bands n))) + cond x (weight total - weight (m.cells (tile_cell m.bands n))) 0) no_tile in
      let b0 = b.0 in
      let b1 = b.1 in
      let b2 = b.2 in
      omega (arith, ints)

  pub topped_alone : Put m (top_cell m.bands n) total m' → Topped n total m m'
  topped_alone p =
      record {
        bands = p.bands;
        cells = record { top = p.here; tile = λ f. absurd (fills_not n no_tile f); kept = λ c l ne _. p.others c l ne };
        room = put_keeps m m' (top_cell m.bands n) total (top_below m.bands n below) p;
      }

-- a growth that writes two
module _ (m m₁ m' : Meaning) (n : ℕ) (total : ℤ) (below : n < 4 * m.bands) (tile : fills n ≡ true) where
  counted : newly m.bands n total m.cells ≡ (weight total - weight (m.cells (top_cell m.bands n))) + (weight total - weight (m.cells (tile_cell m.bands n)))
  counted = ap (λ x. (weight total - weight (m.cells (top_cell m.bands n))) + cond x (weight total - weight (m.cells (tile_cell m.bands n))) 0) tile

  pub free_first : pos (newly m.bands n total m.cells) ≤ℤ m.room → Bars m (tile_cell m.bands n) total → ⊥
  free_first r b =
      let u = counted in
      let b0 = b.0 in
      let b1 = b.1 in
      let b2 = b.2 in
      omega (arith, ints)

  module _ (p : Put m (tile_cell m.bands n) total m₁) where
    same_top : m₁.cells (top_cell m.bands n) ≡ m.cells (top_cell m.bands n)
    same_top = p.others (top_cell m.bands n) (top_below m.bands n below) (apart m.bands n below (fills_is n tile))

    pub free_second : pos (newly m.bands n total m.cells) ≤ℤ m.room → Bars m₁ (top_cell m.bands n) total → ⊥
    free_second r b =
        let u = counted in
        let t = ap weight same_top in
        let b0 = b.0 in
        let b1 = b.1 in
        let b2 = b.2 in
        let q = p.room in
        omega (arith, ints)

    pub topped_both : Put m₁ (top_cell m.bands n) total m' → Topped n total m m'
    topped_both q =
        let keep₁ = put_keeps m m₁ (tile_cell m.bands n) total (tile_below m.bands n below (fills_is n tile)) p in
        let top₁ : top_cell m.bands n < cell_count m₁.bands = subst (λ t. top_cell m.bands n < cell_count t) (sym p.bands) (top_below m.bands n below) in
        let keep₂ = put_keeps m₁ m' (top_cell m.bands n) total top₁ q in
        record {
          bands = q.bands ∙ p.bands;
          cells =
              record {
                top = q.here;
                tile = λ f. q.others (tile_cell m.bands n) (subst (λ t. tile_cell m.bands n < cell_count t) (sym p.bands) (tile_below m.bands n below f)) (λ e. apart m.bands n below f (sym e)) ∙ p.here;
                kept = λ c l ne first. q.others c (subst (λ t. c < cell_count t) (sym p.bands) l) ne ∙ p.others c l (first (fills_is n tile));
              };
          room = subst (λ t. m'.room +ℤ pos (filled m'.cells (cell_count t)) ≡ m₁.room +ℤ pos (filled m₁.cells (cell_count t))) p.bands keep₂ ∙ keep₁;
        }

-- the same with the code's names for the cell and the number
pub bars_at : (m : Meaning) (c c' : ℕ) (z z' : ℤ) → c' ≡ c → z' ≡ z → (Bars m c z → ⊥) → Bars m c' z' → ⊥
bars_at m c c' z z' e f h b = h (subst (λ x. Bars m x z) e (subst (λ y. Bars m c' y) f b))

pub put_at : (m m' : Meaning) (c c' : ℕ) (z z' : ℤ) → c' ≡ c → z' ≡ z → Put m c' z' m' → Put m c z m'
put_at m m' c c' z z' e f p = subst (λ x. Put m x z m') e (subst (λ y. Put m c' y m') f p)

-- a cell of the growth, in a store of its bands
pub cell_below : (m : Meaning) (T c at : ℕ) → m.bands ≡ T → at ≡ c → c < cell_count T → at < cell_count m.bands
cell_below m T c at b e l = subst (λ x. x < cell_count m.bands) (sym e) (subst (λ t. c < cell_count t) (sym b) l)

pub tile_cell_below : (m : Meaning) (T n tile : ℕ) (o : Option ℕ) → m.bands ≡ T → n < 4 * T → o ≡ cond (fills n) (Some (tile_cell T n)) None → o ≡ Some tile → tile < cell_count m.bands
tile_cell_below m T n tile o b below e f =
    let s = some_tile _ _ _ _ e f in
    cell_below m T (tile_cell T n) tile b s.1 (tile_below T n below (fills_is n s.0))

-- before the total comes on top, the tile that comes in use has it, or none comes
abbrev pub First : ℕ → ℤ → Meaning → Meaning → Type 0
First n total m m₁ = ((fills n ≡ true) × Put m (tile_cell m.bands n) total m₁) ⊎ ((fills n ≡ false) × (m₁ ≡ m))

module _ (m m₁ : Meaning) (T n : ℕ) (o : Option ℕ) (b : m.bands ≡ T) (e : o ≡ cond (fills n) (Some (tile_cell T n)) None) where
  pub first_free : (tile : ℕ) (total z : ℤ) → n < 4 * T → o ≡ Some tile → z ≡ total → pos (newly T n total m.cells) ≤ℤ m.room → Bars m tile z → ⊥
  first_free tile total z below f h r =
      let s = some_tile _ _ _ _ e f in
      bars_at m (tile_cell m.bands n) tile total z (s.1 ∙ ap (λ t. tile_cell t n) (sym b)) h
      (free_first m m m n total (subst (λ t. n < 4 * t) (sym b) below) s.0 (subst (λ t. pos (newly t n total m.cells) ≤ℤ m.room) (sym b) r))

  pub first_tile : (tile : ℕ) (total z : ℤ) → o ≡ Some tile → z ≡ total → Put m tile z m₁ → First n total m m₁
  first_tile tile total z f h p =
      let s = some_tile _ _ _ _ e f in
      inl (s.0, put_at m m₁ (tile_cell m.bands n) tile total z (s.1 ∙ ap (λ t. tile_cell t n) (sym b)) h p)

  pub first_none : (total : ℤ) → o ≡ None → m₁ ≡ m → First n total m m₁
  first_none total f h = inr (none_tile _ _ _ e f, h)

module _ (m m₁ m' : Meaning) (T n at : ℕ) (total z : ℤ) (b : m.bands ≡ T) (below : n < 4 * T) (e : at ≡ top_cell T n) (h : z ≡ total) where
  at_top : at ≡ top_cell m.bands n
  at_top = e ∙ ap (λ t. top_cell t n) (sym b)

  under : n < 4 * m.bands
  under = subst (λ t. n < 4 * t) (sym b) below

  pub same_bands : First n total m m₁ → m₁.bands ≡ T
  same_bands (inl p) = p.1.bands ∙ b
  same_bands (inr p) = ap (λ x. x.bands) p.1 ∙ b

  pub top_free : First n total m m₁ → pos (newly T n total m.cells) ≤ℤ m.room → Bars m₁ at z → ⊥
  top_free f r =
      let r' : pos (newly m.bands n total m.cells) ≤ℤ m.room = subst (λ t. pos (newly t n total m.cells) ≤ℤ m.room) (sym b) r in
      bars_at m₁ (top_cell m.bands n) at total z at_top h
      (elim f [ inl p ↦ free_second m m₁ m₁ n total under p.0 p.1 r' | inr p ↦ subst (λ x. Bars x (top_cell m.bands n) total → ⊥) (sym p.1) (free_alone m m n total under p.0 r') ])

  pub topped : First n total m m₁ → Put m₁ at z m' → Topped n total m m'
  topped f q =
      let q' = put_at m₁ m' (top_cell m.bands n) at total z at_top h q in
      elim f [ inl p ↦ topped_both m m₁ m' n total under p.0 p.1 q' | inr p ↦ topped_alone m m' n total under p.0 (subst (λ x. Put x (top_cell m.bands n) total m') p.1 q') ]

-- a growth whose checks read the store m₁, and whose writing found it again as m₂
module _ (v : View) (m₁ m₂ m₃ : Meaning) (first : m₁ ≡ v.store) (second : m₂ ≡ m₁) (n n₁ n₂ T T₁ more : ℕ) (total : ℤ) (mark : ℕ) (marked : mark ≡ v.mark) (most : v.mark ≤ 2 ^ v.size) (size : n ≡ v.size) (size₁ : n₁ ≡ n) (size₂ : n₂ ≡ n) (bands : T ≡ v.store.bands) (bands₁ : m₁.bands ≡ T₁) where
  pub grew : n < 4 * T → total ≡ m₁.cells (total_cell T₁ n₁) → Small total → more ≡ newly T₁ n₁ total m₁.cells → pos more ≤ℤ m₁.room → Topped n₂ total m₂ m₃ → Grew v (n + 1) (view m₃ (n + 1) mark)
  grew below is small count fits topped =
      let b : T₁ ≡ v.store.bands = sym bands₁ ∙ ap (λ m. m.bands) first in
      let e : n₁ ≡ v.size = size₁ ∙ size in
      let t : total ≡ total_of v = is ∙ (λ j. (first j).cells (total_cell (b j) (e j))) in
      let k : more ≡ newly v.store.bands v.size (total_of v) v.store.cells = count ∙ (λ j. newly (b j) (e j) (t j) (first j).cells) in
      let b₂ : m₂.bands ≡ v.store.bands = ap (λ m. m.bands) (second ∙ first) in
      let up : min (n + 1) (4 * m₃.bands) ≡ suc v.size = omega (arith, topped.bands, b₂, bands, size) in
      let marked_up : min mark (2 ^ min (n + 1) (4 * m₃.bands)) ≡ v.mark = rw (up, pow-suc) (omega (arith, marked, most)) in
      record {
        below = omega (arith, bands, size);
        small = subst Small t small;
        fits = subst (λ x. pos x ≤ℤ v.store.room) k (subst (λ m. pos more ≤ℤ m.room) first fits);
        answered = omega (arith, size);
        size = up;
        mark = marked_up;
        topped = subst (λ x. Topped x (total_of v) v.store m₃) (size₂ ∙ size) (subst (λ x. Topped n₂ x v.store m₃) t (subst (λ m. Topped n₂ total m m₃) (second ∙ first) topped));
      }
