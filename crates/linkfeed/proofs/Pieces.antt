-- A line that gives none has a piece, and what is handed on comes before what is still to come.
use Rattle.std.proofs.Common.{◌≡◌, ℕ, zero, suc, ◌<◌, ◌≤◌, List, [], length, Option, Some, None, refl, sym, subst, arith, Bool, true, false, take, ◌∷◌, ◌++◌, ◌-◌}
use Rattle.std.proofs.lemmas.Grind.{common_steps}
use Rattle.std.proofs.lemmas.Option.{gets}
use Rattle.link.specs.Meaning.{Meaning}
use Rattle.console.specs.Ends.{Gave}
use Rattle.linkfeed.specs.Piece.{Piece, Stops, StillGives}
use Rattle.linkfeed.specs.Handing.{HandsOn}

-- nothing, where none comes first
nothing : (gives : ℕ → Option ℕ) → gives 0 ≡ None → Piece gives []
nothing gives none zero few = none
nothing gives none (suc k) few = absurd (omega (arith, few))

longer : (gives : ℕ → Option ℕ) (b : ℕ) (bytes : List ℕ) → gives 0 ≡ Some b → Piece (λ k. gives (suc k)) bytes → Piece gives (b ∷ bytes)
longer gives b bytes here piece zero few = here
longer gives b bytes here piece (suc k) few = piece k (omega (arith, few))

-- up to the first none of those that come until poll number n
piece_until : (n : ℕ) (gives : ℕ → Option ℕ) (first : Option ℕ) → gives 0 ≡ first → gives n ≡ None → (bytes : List ℕ) × Piece gives bytes
piece_until n gives None here none = ([], nothing gives here)
piece_until zero gives (Some b) here none = ([], nothing gives none)
piece_until (suc n) gives (Some b) here none =
    let (bytes, piece) = piece_until n (λ k. gives (suc k)) (gives 1) refl none in
    (b ∷ bytes, longer gives b bytes here piece)

has_piece : (gives : ℕ → Option ℕ) → Stops gives → (bytes : List ℕ) × Piece gives bytes
has_piece gives (n, none) = piece_until n gives (gives 0) refl none

pub still_some : (over : Bool) (gives : ℕ → Option ℕ) → Stops gives → (bytes : List ℕ) × StillGives over gives bytes
still_some true gives stops = ([], refl)
still_some false gives stops = has_piece gives stops

module _ (m : Meaning) (buffer : List ℕ) (many : ℕ) where
  -- what was handed on came before what is still to come
  then_still : (none : Bool) (m' : Meaning) (buffer' : List ℕ) → HandsOn m buffer many none m' buffer' → (rest : List ℕ) → StillGives none m'.comes rest → Piece m.comes (take many buffer' ++ rest)
  then_still true m' buffer' (handed, none) rest over k few =
      grind (arith, common_steps, gets, handed.came k, none, over, handed.within, handed.long, few)
  then_still false m' buffer' (handed, full) rest piece k few =
      grind (arith, common_steps, gets, handed.came k, full, handed.long, few, piece (k - many), handed.moved.onward (k - many))

  some_room : (none : Bool) (m' : Meaning) (buffer' : List ℕ) → HandsOn m buffer many none m' buffer' → many ≤ length buffer'
  some_room true m' buffer' (handed, none) = omega (arith, handed.within, handed.long)
  some_room false m' buffer' (handed, full) = omega (arith, handed.within, handed.long)

  still_none : (none : Bool) (m' : Meaning) (buffer' : List ℕ) → HandsOn m buffer many none m' buffer' → many ≡ 0 → 0 < length buffer' → StillGives none m'.comes []
  still_none true m' buffer' hands zero_many room = refl
  still_none false m' buffer' (handed, full) zero_many room = absurd (omega (arith, handed.long, full, zero_many, room))

  pub gave : (over none : Bool) (m' : Meaning) (buffer' : List ℕ) → over ≡ false → HandsOn m buffer many none m' buffer' → Stops m'.comes → Gave (StillGives over m.comes) (StillGives none m'.comes) buffer' many
  gave over none m' buffer' still hands stops = subst (λ over. Gave (StillGives over m.comes) (StillGives none m'.comes) buffer' many) (sym still) record {
    within = some_room none m' buffer' hands;
    before = then_still none m' buffer' hands;
    some = still_some none m'.comes stops;
    ended = still_none none m' buffer' hands;
  }
