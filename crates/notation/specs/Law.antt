-- A feed comes back from its text.
--
-- RoundTrip   every string of bytes comes back from its text
use Rattle.std.specs.Prelude.{◌≡◌, ℕ, List, Ok}
use Rattle.hex.specs.Hex.{IsBytes}
use Rattle.notation.specs.Text.{text_of}
use Rattle.notation.specs.Reading.{feed_of}

abbrev pub RoundTrip : Type 0
RoundTrip = (bs : List ℕ) → IsBytes bs → feed_of (text_of bs) ≡ Ok bs
