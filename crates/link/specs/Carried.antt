-- A ring between the board and the link: what was put comes out, each byte once and in order.
--   Event             a byte put, which was taken or dropped; a poll, and what came; a reply
--   Done w e w'       at a ring in which w waits the event e leaves w': what the contracts of the calls say
--   Calls             what each call of a ring ensures is an event
--   Happens w es w'   the events es, one after another
--   put_in, come_out  the bytes that were put and taken, and those that came
use Rattle.std.specs.Prelude.{◌≡◌, ◌↔◌, IsTrue, ℕ, ◌<◌, ◌≤◌, Bool, true, false, List, [], ◌∷◌, ◌++◌, length, Option, Some, None, slice_get}
use Rattle.std.specs.Bool.{OnTrue, OnFalse}
use Rattle.std.specs.List.{flat_map}
use Rattle.link.specs.Meaning.{IsPolled, IsReplied, Waiting, bytes_of, meaning_of}
use Rattle.link.specs.Puts.{with_byte}

pub data Event : Type 0 where
  Put : (byte : ℕ) (taken : Bool) → Event
  Polled : (came : Option ℕ) → Event
  Replied : (byte : ℕ) → Event

abbrev pub Done : Waiting → Event → Waiting → Type 0
Done w (Put byte true) w' = (length w.bytes < 64) × (w' ≡ with_byte w byte)
Done w (Put byte false) w' = (64 ≤ length w.bytes) × (w' ≡ w)
Done w (Polled came) w' = (came ≡ slice_get w.bytes 0) × IsPolled (meaning_of w) (meaning_of w')
Done w (Replied byte) w' = IsReplied (meaning_of w) byte (meaning_of w')

-- what each call of a ring ensures is an event
pub record Calls : Type 0 where
  pub put : (w : Waiting) (byte : ℕ) (taken : Bool) (w' : Waiting)
      → (IsTrue taken ↔ (length w.bytes < 64)) → OnTrue taken (w' ≡ with_byte w byte) → OnFalse taken (w' ≡ w)
      → Done w (Put byte taken) w'
  pub poll : (w : Waiting) (came : Option ℕ) (w' : Waiting)
      → came ≡ (meaning_of w).comes 0 → IsPolled (meaning_of w) (meaning_of w') → Done w (Polled came) w'
  pub reply : (w : Waiting) (byte : ℕ) (w' : Waiting)
      → IsReplied (meaning_of w) byte (meaning_of w') → Done w (Replied byte) w'

abbrev pub Happens : Waiting → List Event → Waiting → Type 0
Happens w [] w' = w' ≡ w
Happens w (event ∷ events) w' = (next : Waiting) × Done w event next × Happens next events w'

abbrev pub put_in : Event → List ℕ
put_in (Put byte true) = byte ∷ []
put_in _ = []

abbrev pub come_out : Event → List ℕ
come_out (Polled came) = bytes_of came
come_out _ = []

-- what waited at first and what was put since is, in this order, what came and what waits now
abbrev pub Carries : Waiting → Type 0
Carries w =
    (events : List Event) (w' : Waiting) → Happens w events w'
    → w.bytes ++ flat_map put_in events ≡ flat_map come_out events ++ w'.bytes

abbrev pub ring_of : List ℕ → Waiting
ring_of bytes = record { bytes = bytes; replied = None }

-- such a run: 7 and 9 are put, 7 comes, 8 is put, and 9 comes
abbrev pub Carried : Type 0
Carried =
    Happens (ring_of [])
    (Put 7 true ∷ Put 9 true ∷ Polled (Some 7) ∷ Put 8 true ∷ Polled (Some 9) ∷ [])
    (ring_of (8 ∷ []))
