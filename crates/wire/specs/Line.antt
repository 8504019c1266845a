-- What a line of the feed reads, byte by byte.
--
-- decimal n, signed z   the digits of a number, with a minus sign before a negative one (the standard library's words)
-- field n               a space, then the number
-- line_bytes l          the letter, the fields, and the newline of a line
-- WritesLine l ..       what a buffer holds after the line was written into it, and what the call returned
-- line_fault_number     the number under which a fault is reported
-- InRangeLine l         the numbers of a line fit their widths
-- LinesApart            two such lines with the same bytes are the same line
use Rattle.std.specs.Prelude.{◌≡◌, ℕ, ◌^◌, ◌<◌, ◌≤◌, List, [], ◌∷◌, ◌++◌, length, drop, ℤ, pos, negsuc, Ok, Err, decimal, Result}
use Rattle.std.specs.Fmt.{signed_decimal}
use Rattle.wire.specs.declared.line.Line.{Line}
use Rattle.wire.specs.declared.line.Line.TheVariants.{Grown, Begun, Finished, GivenUp, Added, Point, Sum, Mean, Refused}
use Rattle.wire.specs.declared.line.LineFault.{LineFault}
use Rattle.wire.specs.declared.line.LineFault.TheVariants.{Buffer}

abbrev pub field : ℕ → List ℕ
field n = 32 ∷ decimal n

abbrev pub signed_field : ℤ → List ℕ
signed_field z = 32 ∷ signed_decimal z

abbrev pub newline : List ℕ
newline = 10 ∷ []

-- a letter, then nothing, one number, or two
abbrev pub bare_line : ℕ → List ℕ
bare_line letter = letter ∷ newline

abbrev pub count_line : ℕ → ℕ → List ℕ
count_line letter n = letter ∷ field n ++ newline

abbrev pub answer_line : ℕ → ℤ → ℕ → List ℕ
answer_line letter z n = letter ∷ signed_field z ++ field n ++ newline

abbrev pub line_bytes : Line → List ℕ
line_bytes (Grown size) = count_line 71 size  -- G
line_bytes Begun = bare_line 76  -- L
line_bytes (Finished cells) = count_line 70 cells  -- F
line_bytes (GivenUp values) = count_line 65 values  -- A
line_bytes (Added cells) = count_line 80 cells  -- P
line_bytes (Point value cells) = answer_line 81 value cells  -- Q
line_bytes (Sum sum cells) = answer_line 83 sum cells  -- S
line_bytes (Mean mean cells) = answer_line 77 mean cells  -- M
line_bytes (Refused number offset) = 69 ∷ field number ++ field offset ++ newline  -- E

pub record WritesLine (l : Line) (before after : List ℕ) (r : Result ℕ LineFault) : Type 0 where
  pub refused : length before < length (line_bytes l) → (r ≡ Err Buffer) × (after ≡ before)
  pub written : length (line_bytes l) ≤ length before → (r ≡ Ok (length (line_bytes l))) × (after ≡ line_bytes l ++ drop (length (line_bytes l)) before)

abbrev pub line_fault_number : LineFault → ℕ
line_fault_number Buffer = 15

-- from -2^63 to 2^63 - 1
abbrev pub InRangeNumber : ℤ → Type 0
InRangeNumber (pos n) = n < 2 ^ 63
InRangeNumber (negsuc n) = n < 2 ^ 63

abbrev pub InRangeLine : Line → Type 0
InRangeLine (Grown size) = size < 2 ^ 8
InRangeLine Begun = Unit {0}
InRangeLine (Finished cells) = cells < 2 ^ 32
InRangeLine (GivenUp values) = values < 2 ^ 32
InRangeLine (Added cells) = cells < 2 ^ 32
InRangeLine (Point value cells) = InRangeNumber value × (cells < 2 ^ 32)
InRangeLine (Sum sum cells) = InRangeNumber sum × (cells < 2 ^ 32)
InRangeLine (Mean mean cells) = InRangeNumber mean × (cells < 2 ^ 32)
InRangeLine (Refused number offset) = (number < 2 ^ 8) × (offset < 2 ^ 64)

abbrev pub LinesApart : Type 0
LinesApart = (l m : Line) → InRangeLine l → InRangeLine m → line_bytes l ≡ line_bytes m → l ≡ m
