-- What a call answers that reads text, where memory may be wanting.
--
-- Appends more r old new     these bytes stand after the old ones, unless r is an error
-- Pushes reading r old new   the bytes that were read stand after the old ones, or r says why not
-- capped w                   the number of the word w, at most 2^32
-- Reads reading r            r is what was read and the bytes after it, or why there is none
-- HexReads w rest r          r is the bytes of the word w of hex pairs, before the bytes rest, or says why there are none
-- located n len f            f in line n, which has so many bytes
-- Feeds text r               r is the feed of the text, or says why there is none
use Rattle.std.specs.Prelude.{◌≡◌, ℕ, ◌^◌, min, cond, List, ◌++◌, Ok, Err, Result, OnOk}
use Rattle.std.specs.Borrow.{Bor}
use Rattle.std.specs.Str.Parse.{digits_value}
use Rattle.std.specs.Global.{Vec}
use Rattle.notation.specs.declared.fault.Misread.{Misread}
use Rattle.notation.specs.declared.fault.Problem.{Problem}
use Rattle.notation.specs.declared.fault.Problem.TheVariants.{NotNumber}
use Rattle.notation.specs.declared.fault.PushFault.{PushFault}
use Rattle.notation.specs.declared.fault.PushFault.TheVariants as line
use Rattle.notation.specs.declared.fault.ReadingFault.{ReadingFault}
use Rattle.notation.specs.declared.fault.ReadingFault.TheVariants.{Text, Memory}
use Rattle.notation.specs.Reading.{map_ok, is_numeral, hex_bytes, read_as, fault_at, feed_of}

abbrev pub Appends : {T E : Type 0} → List ℕ → Result T E → List ℕ → List ℕ → Type 0
Appends more r old new = OnOk r (new ≡ old ++ more)

abbrev pub Pushes : Result (List ℕ) Misread → Result Unit PushFault → List ℕ → List ℕ → Type 0
Pushes reading (Ok u) old new = map_ok (λ bs. old ++ bs) reading ≡ Ok new
Pushes reading (Err (line.Misread m)) old new = reading ≡ Err m
Pushes reading (Err (line.Memory e)) old new = Unit {0}

abbrev pub capped : List ℕ → Result ℕ Problem
capped w = cond (is_numeral w) (Ok (min (2 ^ 32) (digits_value 10 w))) (Err NotNumber)

abbrev pub Reads : {A : Type 0} → Result (A × List ℕ) Misread → Result (A × Bor (List ℕ)) Misread → Type 0
Reads reading (Ok p) = reading ≡ Ok (p.0, p.1.now)
Reads reading (Err m) = reading ≡ Err m

abbrev pub HexReads : List ℕ → List ℕ → Result (Vec ℕ) PushFault → Type 0
HexReads w rest (Ok bytes) = hex_bytes w ≡ Ok bytes.items
HexReads w rest (Err (line.Misread m)) = read_as w rest (hex_bytes w) ≡ Err m
HexReads w rest (Err (line.Memory e)) = Unit {0}

abbrev pub located : ℕ → ℕ → PushFault → ReadingFault
located n len (line.Misread m) = Text (fault_at n len m)
located n len (line.Memory e) = Memory e

abbrev pub Feeds : List ℕ → Result (Vec ℕ) ReadingFault → Type 0
Feeds text (Ok feed) = feed_of text ≡ Ok feed.items
Feeds text (Err (Text f)) = feed_of text ≡ Err f
Feeds text (Err (Memory e)) = Unit {0}
