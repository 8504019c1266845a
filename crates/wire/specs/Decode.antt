-- What the bytes of a command mean.
--
-- big_endian bs i       the number in the four bytes from place i, most significant first
-- twos_complement n     the signed number whose 32 bits are n
-- commands              the table: each command's letter, the number of its operand bytes, and the command
-- decoded bs            the command at the front of bs with the bytes after it, or why there is none
-- decode_fault_number   the number under which a fault is reported
use Rattle.std.specs.Prelude.{ℕ, ◌+◌, ◌-◌, ◌*◌, ◌^◌, cond, List, [], ◌∷◌, length, drop, ℤ, pos, negsuc, Ok, Err, Result, ◌==◌, nat_lt, slice_index}
use Rattle.wire.specs.declared.command.Command.{Command}
use Rattle.wire.specs.declared.command.Command.TheVariants.{Grow, Begin, Value, Finish, GiveUp, Add, Point, Sum, Mean}
use Rattle.wire.specs.declared.command.DecodeFault.{DecodeFault}
use Rattle.wire.specs.declared.command.DecodeFault.TheVariants.{Command as Unknown, Cut}

abbrev pub big_endian : List ℕ → ℕ → ℕ
big_endian bs i = slice_index bs i * 2 ^ 24 + slice_index bs (i + 1) * 2 ^ 16 + slice_index bs (i + 2) * 2 ^ 8 + slice_index bs (i + 3)

abbrev pub twos_complement : ℕ → ℤ
twos_complement n = cond (nat_lt n (2 ^ 31)) (pos n) (negsuc (2 ^ 32 - 1 - n))

-- a letter, how many operand bytes follow it, and the command, from all its bytes: the letter is at place 0
pub record Row : Type 0 where
  pub letter : ℕ
  pub width : ℕ
  pub command : List ℕ → Command

abbrev pub row : ℕ → ℕ → (List ℕ → Command) → Row
row l w c = record { letter = l; width = w; command = c }

abbrev pub commands : List Row
commands =
    row 71 0 (λ bs. Grow)  -- G
    ∷ row 76 5 (λ bs. Begin (slice_index bs 1) (big_endian bs 2))  -- L
    ∷ row 86 4 (λ bs. Value (twos_complement (big_endian bs 1)))  -- V
    ∷ row 70 0 (λ bs. Finish)  -- F
    ∷ row 65 0 (λ bs. GiveUp)  -- A
    ∷ row 80 8 (λ bs. Add (big_endian bs 1) (twos_complement (big_endian bs 5)))  -- P
    ∷ row 81 4 (λ bs. Point (big_endian bs 1))  -- Q
    ∷ row 83 8 (λ bs. Sum (big_endian bs 1) (big_endian bs 5))  -- S
    ∷ row 77 8 (λ bs. Mean (big_endian bs 1) (big_endian bs 5))  -- M
    ∷ []

-- the command of a row, where its operands are all there
abbrev pub decoded_as : Row → List ℕ → Result (Command × List ℕ) DecodeFault
decoded_as r bs = cond (nat_lt (length bs) (1 + r.width)) (Err Cut) (Ok (r.command bs, drop (1 + r.width) bs))

-- by the first of the rows that has the letter of bs
abbrev pub decoded_by : List Row → List ℕ → Result (Command × List ℕ) DecodeFault
decoded_by [] bs = Err Unknown
decoded_by (r ∷ rs) bs = cond (slice_index bs 0 == r.letter) (decoded_as r bs) (decoded_by rs bs)

abbrev pub decoded : List ℕ → Result (Command × List ℕ) DecodeFault
decoded bs = cond (length bs == 0) (Err Cut) (decoded_by commands bs)

abbrev pub decode_fault_number : DecodeFault → ℕ
decode_fault_number Unknown = 11
decode_fault_number Cut = 12
