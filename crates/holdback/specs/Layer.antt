-- What a layer means, and where it puts a number: among the held ones, or in the store below.
--   layer_means   what a layer is known by, over what the store below means
--   fresh_held    how many held numbers are for a cell that the store below has, and that is zero there
--   Passed        a number is written to the store below, and nothing else is done to it
--   Goes          what a number written to a cell makes of the layer: it is held, passed below, or drops what is held
--   Sinks         a held number written to the store below, if that has the cell
--   Pours         every held number sinks, in rising cell number, none is held, and the store below settles
--   Rests         what settling makes of the layer: with room below zero itself, and else what pouring makes of it
use Rattle.std.specs.Prelude.{◌≡◌, ◌≢◌, ℕ, ◌<◌, ◌≤◌, ◌⊎◌, ℤ, pos, ◌≤ℤ◌, ◌<ℤ◌}
use Rattle.haar.specs.Tiles.{cell_count}
use Rattle.store.specs.Meaning.{Meaning, Put}
use Rattle.store.specs.Contents.{Empty, in_use, Lacks, Stored, Unchanged}
use Rattle.store.specs.Writing.{Putting, Settling, Written}
use Rattle.holdback.specs.declared.held.HoldBack.{HoldBack}
use Rattle.holdback.specs.Over.{fresh, held_over}

-- the numbers held over the store below
abbrev pub layer_means : {S : Type 0} → (S → Meaning) → HoldBack S → Meaning
layer_means means h = held_over h.held.entries h.held.used (means h.below)

abbrev pub fresh_held : {S : Type 0} → (S → Meaning) → HoldBack S → ℕ
fresh_held means h = fresh (cell_count (means h.below).bands) h.held.entries h.held.used (means h.below).cells

-- the store below has v in cell c, and is in full what its own write of that makes of it
pub record Passed {S : Type 0} (means : S → Meaning) (puts : Putting S) (h : HoldBack S) (c : ℕ) (v : ℤ) (k : HoldBack S) : Type 0 where
  pub known : Put (means h.below) c v (means k.below)
  pub whole : puts h.below c v k.below

-- a layer h, and after v is written to its cell c, k
pub record Goes {S : Type 0} (means : S → Meaning) (puts : Putting S) (h : HoldBack S) (c : ℕ) (v : ℤ) (k : HoldBack S) : Type 0 where
  -- a number other than zero is held if the cell is held already or an entry is free, and the store below stays
  pub held : (v ≢ pos 0) → (Lacks h.held c → ⊥) ⊎ (h.held.used < 64) → Stored h.held c v k.held × (k.below ≡ h.below)
  -- else it is passed below, and the held numbers stay
  pub passed : (v ≢ pos 0) → Lacks h.held c → 64 ≤ h.held.used → Unchanged h.held k.held × Passed means puts h c v k
  -- zero drops the cell's held number, and is passed below
  pub dropped : v ≡ pos 0 → Stored h.held c (pos 0) k.held × Passed means puts h c (pos 0) k

-- the store below, and after v is written to its cell c; a number for a cell that it does not have is never held, and would be dropped
pub record Sinks {S : Type 0} (means : S → Meaning) (puts : Putting S) (s : S) (c : ℕ) (v : ℤ) (t : S) : Type 0 where
  pub inside : c < cell_count (means s).bands → puts s c v t
  pub outside : cell_count (means s).bands ≤ c → t ≡ s

-- a layer h, and k
pub record Pours {S : Type 0} (means : S → Meaning) (puts : Putting S) (settled : Settling S) (h k : HoldBack S) : Type 0 where
  pub below : S
  pub sunk : Written (Sinks means puts) (in_use h.held) h.below below
  pub rests : settled below k.below
  pub none : Empty k.held

pub record Rests {S : Type 0} (means : S → Meaning) (puts : Putting S) (settled : Settling S) (h k : HoldBack S) : Type 0 where
  pub waits : (layer_means means h).room <ℤ pos 0 → k ≡ h
  pub pours : pos 0 ≤ℤ (layer_means means h).room → Pours means puts settled h k
