-- A range, read interval by interval: what is read so far, and what is left.
use Rattle.std.proofs.Common.{◌≡◌, ℕ, suc, ◌+◌, ◌-◌, ◌*◌, ◌/◌, ◌^◌, ◌<◌, ◌≤◌, ℤ, pos, ◌+ℤ◌, nat_abs, Ok, Err, Result, sym, refl, ap, ◌∙◌, subst, ap₂, inl, arith, shr_lt, w64, SFits, to_z, of_z}
use Rattle.haar.proofs.Numbers.{same_pow}
use Rattle.std.proofs.lemmas.Int.{ints, to_z-of_z, fits_signed_from_abs}
use Rattle.warehouse.specs.declared.fault.Fault.{Fault}
use Rattle.warehouse.specs.declared.reading.Reading.{Reading}
use Rattle.warehouse.specs.Ask.{counted, piece, range_reading}
use Rattle.warehouse.specs.Read.{◌then◌, read, cells_read, longest, read_all, all_cells, read_range, range_cells}
use Rattle.warehouse.proofs.Descents.{read_small}
use Rattle.warehouse.proofs.Halves.{Small}
use Rattle.warehouse.proofs.Pieces.{longest_is, pieces_more, pieces_none, cells_few, Stage, stage_few, stage_more}

-- a small sum and a piece's, added by the machine
module _ (s p : ℤ) (a : nat_abs s ≤ 2 ^ 62) (b : nat_abs p ≤ 2 ^ 56) where
  read_back : to_z w64 (of_z w64 s) +ℤ to_z w64 (of_z w64 p) ≡ s +ℤ p
  read_back = ap₂ (λ x y. x +ℤ y) (to_z-of_z w64 s (fits_signed_from_abs w64 s (omega arith))) (to_z-of_z w64 p (fits_signed_from_abs w64 p (omega arith)))

  both_fit : SFits w64 (s +ℤ p)
  both_fit = fits_signed_from_abs w64 (s +ℤ p) (omega (arith, ints))

  pub added_fits : SFits w64 (to_z w64 (of_z w64 s) +ℤ to_z w64 (of_z w64 p))
  added_fits = subst (SFits w64) (sym read_back) both_fit

  pub added : to_z w64 (of_z w64 (to_z w64 (of_z w64 s) +ℤ to_z w64 (of_z w64 p))) ≡ s +ℤ p
  added = ap (λ x. to_z w64 (of_z w64 x)) read_back ∙ to_z-of_z w64 (s +ℤ p) both_fit

-- a sum that is carried on
carried : (r : Result ℤ Fault) (v s : ℤ) → ◌then◌ (◌then◌ r (λ x. Ok (s +ℤ x))) (λ x. Ok (v +ℤ x)) ≡ ◌then◌ r (λ x. Ok ((v +ℤ s) +ℤ x))
carried (Ok x) v s = ap Ok (omega (arith, ints))
carried (Err f) v s = refl

pub piece_value : (r : Result ℤ Fault) (cells : ℕ) (p : Reading) → ◌then◌ r (counted cells) ≡ Ok p → (r ≡ Ok p.value) × (p.cells ≡ cells)
piece_value (Ok s) cells p e = let q : p ≡ record { value = s; cells = cells } = cc in (ap (λ x. Ok x.value) (sym q), ap (λ x. x.cells) q)
piece_value (Err f) cells p e = let z : ◌≡◌ {A = ℕ} 0 1 = cc in absurd (omega arith)

pub piece_fault : (r : Result ℤ Fault) (cells : ℕ) (f : Fault) → ◌then◌ r (counted cells) ≡ Err f → r ≡ Err f
piece_fault (Ok s) cells f e = let z : ◌≡◌ {A = ℕ} 0 1 = cc in absurd (omega arith)
piece_fault (Err x) cells f e = let q : x ≡ f = cc in ap Err q

-- at a, the sum v and the count so far, with what is left up to b, are those of the whole from `from`
pub record SoFar (T n : ℕ) (look : ℕ → Result ℤ Fault) (from b a : ℕ) (sum : Reading) : Type 0 where
  pub inside : a ≤ b
  pub value : read_range T n look from b ≡ ◌then◌ (read_range T n look a b) (λ r. Ok (sum.value +ℤ r))
  pub cells : range_cells n from b ≡ sum.cells + range_cells n a b
  -- after so many intervals
  pub many : ℕ
  pub stage : Stage n many a b
  pub small : nat_abs sum.value ≤ many * 2 ^ 56
  pub few : sum.cells ≤ many * 5

module _ (T n : ℕ) (look : ℕ → Result ℤ Fault) (from b : ℕ) (size : n ≤ 20) (room : b ≤ 2 ^ n) where
  none_left : (r : Result ℤ Fault) → r ≡ ◌then◌ r (λ x. Ok (pos 0 +ℤ x))
  none_left (Ok x) = ap Ok (omega (arith, ints))
  none_left (Err f) = refl

  pub so_far_none : from ≤ b → SoFar T n look from b from (record { value = pos 0; cells = 0 })
  so_far_none h = record {
    inside = h;
    value = none_left (read_range T n look from b);
    cells = omega arith;
    many = 0;
    stage = inl (omega arith, omega arith);
    small = omega arith;
    few = omega arith;
  }

  module _ (a : ℕ) (sum : Reading) (s : SoFar T n look from b a sum) where
    pub small_sum : (nat_abs sum.value ≤ 2 ^ 62) × (sum.cells ≤ 210)
    small_sum = let m = stage_few n s.many a b size s.stage in let x = s.small in let y = s.few in (omega arith, omega arith)

    pub so_far_all : b ≤ a → Ok sum ≡ range_reading T n look from b
    unfolding range_reading read_all all_cells
    so_far_all h =
        let none = pieces_none n a b h in
        let r : read_range T n look from b ≡ Ok sum.value = s.value ∙ ap (λ x. ◌then◌ (read_all T n look x) (λ r. Ok (sum.value +ℤ r))) none ∙ ap Ok (omega (arith, ints)) in
        let k : range_cells n from b ≡ sum.cells = s.cells ∙ ap (λ x. sum.cells + all_cells n x) none ∙ omega arith in
        sym (ap₂ (λ x c. ◌then◌ x (counted c)) r k)

    module _ (lt : a < b) where
      pub index_inside : a / 2 ^ longest n a b < 2 ^ (n - longest n a b)
      index_inside =
          let u = longest_is n a b lt in
          let low = u.low in
          let q : n ≡ n - longest n a b + longest n a b = omega arith in
          shr_lt (n - longest n a b) (longest n a b) (omega (arith, same_pow n (n - longest n a b + longest n a b) q))

      pub so_far_lost : (f : Fault) → read T n look (longest n a b) (a / 2 ^ longest n a b) ≡ Err f → Err f ≡ range_reading T n look from b
      unfolding range_reading read_all
      so_far_lost f e =
          let r : read_range T n look a b ≡ Err f = ap (read_all T n look) (pieces_more n a b lt) ∙ ap (λ x. ◌then◌ x (λ s. ◌then◌ (read_range T n look (a + 2 ^ longest n a b) b) (λ r. Ok (s +ℤ r)))) e in
          sym (ap (λ x. ◌then◌ x (counted (range_cells n from b))) (s.value ∙ ap (λ x. ◌then◌ x (λ r. Ok (sum.value +ℤ r))) r))

      pub so_far_more : (p : Reading) → piece T n look (longest n a b) (a / 2 ^ longest n a b) ≡ Ok p → SoFar T n look from b (a + 2 ^ longest n a b) (record { value = sum.value +ℤ p.value; cells = sum.cells + p.cells })
      unfolding read_all all_cells
      so_far_more p e =
          let more = pieces_more n a b lt in
          let u = longest_is n a b lt in
          let q = piece_value (read T n look (longest n a b) (a / 2 ^ longest n a b)) (cells_read n (longest n a b)) p e in
          let r : read_range T n look a b ≡ ◌then◌ (read_range T n look (a + 2 ^ longest n a b) b) (λ r. Ok (p.value +ℤ r)) = ap (read_all T n look) more ∙ ap (λ x. ◌then◌ x (λ s. ◌then◌ (read_range T n look (a + 2 ^ longest n a b) b) (λ r. Ok (s +ℤ r)))) q.0 in
          let k = ap (all_cells n) more in
          let small : nat_abs p.value ≤ 2 ^ 56 = subst Small q.0 (read_small T n look (longest n a b) (a / 2 ^ longest n a b)) in
          let x = s.small in
          let y = s.few in
          let z = s.cells in
          let w = q.1 in
          record {
            inside = u.here.ends;
            value = s.value ∙ ap (λ x. ◌then◌ x (λ r. Ok (sum.value +ℤ r))) r ∙ carried (read_range T n look (a + 2 ^ longest n a b) b) sum.value p.value;
            cells = omega arith;
            many = suc s.many;
            stage = stage_more n s.many a b (longest n a b) size lt room u s.stage;
            small = omega (arith, ints);
            few = omega (arith, cells_few n (longest n a b));
          }

pub piece_small : (T n : ℕ) (look : ℕ → Result ℤ Fault) (j k : ℕ) (p : Reading) → piece T n look j k ≡ Ok p → (nat_abs p.value ≤ 2 ^ 56) × (p.cells ≤ 5)
piece_small T n look j k p e =
    let q = piece_value (read T n look j k) (cells_read n j) p e in
    (subst Small q.0 (read_small T n look j k), let w = q.1 in omega (arith, cells_few n j))

-- the same at the level j that was found
module _ (T n : ℕ) (look : ℕ → Result ℤ Fault) (from b : ℕ) (size : n ≤ 20) (room : b ≤ 2 ^ n) (a : ℕ) (sum : Reading) (s : SoFar T n look from b a sum) (lt : a < b) (j : ℕ) (is : j ≡ longest n a b) where
  pub piece_inside : (j ≤ n) × (a / 2 ^ j < 2 ^ (n - j))
  piece_inside = subst (λ j. (j ≤ n) × (a / 2 ^ j < 2 ^ (n - j))) (sym is) ((longest_is n a b lt).low, index_inside T n look from b size room a sum s lt)

  pub piece_lost : (f : Fault) → piece T n look j (a / 2 ^ j) ≡ Err f → Err f ≡ range_reading T n look from b
  piece_lost f e =
      so_far_lost T n look from b size room a sum s lt f
      (subst (λ j. read T n look j (a / 2 ^ j) ≡ Err f) is (piece_fault (read T n look j (a / 2 ^ j)) (cells_read n j) f e))

  pub piece_more : (p next : Reading) (a' : ℕ) → piece T n look j (a / 2 ^ j) ≡ Ok p → a' ≡ a + 2 ^ j → next ≡ record { value = sum.value +ℤ p.value; cells = sum.cells + p.cells } → SoFar T n look from b a' next
  piece_more p next a' e q w =
      let far = so_far_more T n look from b size room a sum s lt p (subst (λ j. piece T n look j (a / 2 ^ j) ≡ Ok p) is e) in
      let at : a + 2 ^ longest n a b ≡ a' = ap (λ j. a + 2 ^ j) (sym is) ∙ sym q in
      subst (λ x. SoFar T n look from b x next) at (subst (SoFar T n look from b (a + 2 ^ longest n a b)) (sym w) far)
