-- The bytes of a command, and the law that they are read back.
--
-- four_bytes n        the bytes of a number below 2^32, most significant first
-- bits_of z           the 32 bits of a signed number, as a number
-- encode c            the letter of a command and its operands
-- InRange c           its operands fit their widths
-- DecodesEncoded      a command that was encoded is decoded, whatever stands after it
use Rattle.std.specs.Prelude.{◌≡◌, ℕ, ◌-◌, ◌/◌, ◌%◌, ◌^◌, ◌<◌, List, [], ◌∷◌, ◌++◌, ℤ, pos, negsuc, Ok}
use Rattle.wire.specs.Decode.{decoded}
use Rattle.wire.specs.declared.command.Command.{Command}
use Rattle.wire.specs.declared.command.Command.TheVariants.{Grow, Begin, Value, Finish, GiveUp, Add, Point, Sum, Mean}

abbrev pub four_bytes : ℕ → List ℕ
four_bytes n = n / 2 ^ 24 ∷ n / 2 ^ 16 % 2 ^ 8 ∷ n / 2 ^ 8 % 2 ^ 8 ∷ n % 2 ^ 8 ∷ []

abbrev pub bits_of : ℤ → ℕ
bits_of (pos n) = n
bits_of (negsuc n) = 2 ^ 32 - 1 - n

abbrev pub encode : Command → List ℕ
encode Grow = 71 ∷ []
encode (Begin level index) = 76 ∷ level ∷ four_bytes index
encode (Value value) = 86 ∷ four_bytes (bits_of value)
encode Finish = 70 ∷ []
encode GiveUp = 65 ∷ []
encode (Add minute value) = 80 ∷ four_bytes minute ++ four_bytes (bits_of value)
encode (Point minute) = 81 ∷ four_bytes minute
encode (Sum from to) = 83 ∷ four_bytes from ++ four_bytes to
encode (Mean from to) = 77 ∷ four_bytes from ++ four_bytes to

-- from -2^31 to 2^31 - 1
abbrev pub InRangeSigned : ℤ → Type 0
InRangeSigned (pos n) = n < 2 ^ 31
InRangeSigned (negsuc n) = n < 2 ^ 31

abbrev pub InRange : Command → Type 0
InRange Grow = Unit {0}
InRange (Begin level index) = (level < 2 ^ 8) × (index < 2 ^ 32)
InRange (Value value) = InRangeSigned value
InRange Finish = Unit {0}
InRange GiveUp = Unit {0}
InRange (Add minute value) = (minute < 2 ^ 32) × InRangeSigned value
InRange (Point minute) = minute < 2 ^ 32
InRange (Sum from to) = (from < 2 ^ 32) × (to < 2 ^ 32)
InRange (Mean from to) = (from < 2 ^ 32) × (to < 2 ^ 32)

abbrev pub DecodesEncoded : Type 0
DecodesEncoded = (c : Command) (rest : List ℕ) → InRange c → decoded (encode c ++ rest) ≡ Ok (c, rest)
