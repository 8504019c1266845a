-- What a text says: the bytes of a feed, or the place where it is no text of a feed, and why.
--
-- word bs               the bytes up to the first space
-- number limit w        the number that the word w is in decimal, if it is below the limit
-- level, minute w       the same at the widths of a level, and of a minute or an index
-- signed_number w       the same of a 32-bit number with a minus sign or none
-- hex_bytes w           the bytes of a word of hex pairs
-- r >>= f               f of what was read, if it was
-- field_of read bs      what `read` makes of the word after the space at the front of bs, and the bytes after it
-- one, two              a command of one such field, or of two, and nothing after it
-- rows                  the table: each command's letter, and how the rest of its line is read
-- line_feed l           the bytes that a line stands for
-- feed_lines n ls       those of the lines ls, of which the first is line n
-- feed_of text          the feed of a text
-- A line is misread with `left` of its bytes to come: that gives the column.
use Rattle.std.specs.Prelude.{ℕ, ◌+◌, ◌-◌, ◌^◌, Bool, true, cond, ◌&&◌, List, [], ◌∷◌, ◌++◌, length, drop, ℤ, pos, neg_ℤ, Ok, Err, Result, ◌==◌, nat_lt, slice_index}
use Rattle.std.specs.List.{before_first, list_all, slice_split}
use Rattle.std.specs.Char.{is_ascii_digit}
use Rattle.std.specs.Str.Parse.{digits_value}
use Rattle.hex.specs.Hex.{decode_of}
use Rattle.hex.specs.declared.error.FromHexError.{FromHexError}
use Rattle.wire.specs.Encode.{encode}
use Rattle.wire.specs.declared.command.Command.{Command}
use Rattle.wire.specs.declared.command.Command.TheVariants.{Grow, Begin, Value, Finish, GiveUp, Add, Point, Sum, Mean}
use Rattle.notation.specs.declared.fault.Problem.{Problem}
use Rattle.notation.specs.declared.fault.Problem.TheVariants.{Letter, Missing, NotNumber, TooLarge, Surplus, NotHex}
use Rattle.notation.specs.declared.fault.Misread.{Misread}
use Rattle.notation.specs.declared.fault.TextFault.{TextFault}

abbrev pub misread : ℕ → Problem → Misread
misread left problem = record { left = left; problem = problem }

-- words

abbrev pub word : List ℕ → List ℕ
word bs = before_first (λ b. b == 32) bs

abbrev pub is_numeral : List ℕ → Bool
is_numeral w = nat_lt 0 (length w) && list_all is_ascii_digit w

abbrev pub number : ℕ → List ℕ → Result ℕ Problem
number limit w = cond (is_numeral w) (cond (nat_lt (digits_value 10 w) limit) (Ok (digits_value 10 w)) (Err TooLarge)) (Err NotNumber)

abbrev pub level : List ℕ → Result ℕ Problem
level w = number (2 ^ 8) w

abbrev pub minute : List ℕ → Result ℕ Problem
minute w = number (2 ^ 32) w

abbrev pub map_ok : {A B E : Type 0} → (A → B) → Result A E → Result B E
map_ok f (Ok x) = Ok (f x)
map_ok f (Err e) = Err e

abbrev pub signed_number : List ℕ → Result ℤ Problem
signed_number w = cond (slice_index w 0 == 45) (map_ok (λ n. neg_ℤ (pos n)) (number (2 ^ 31 + 1) (drop 1 w))) (map_ok pos (number (2 ^ 31) w))

abbrev pub hex_or : Result (List ℕ) FromHexError → Result (List ℕ) Problem
hex_or (Ok bs) = Ok bs
hex_or (Err e) = Err NotHex

abbrev pub hex_bytes : List ℕ → Result (List ℕ) Problem
hex_bytes w = cond (length w == 0) (Err NotHex) (hex_or (decode_of w))

-- lines

infixl 10 ◌>>=◌
abbrev pub ◌>>=◌ : {A B : Type 0} → Result A Misread → (A → Result B Misread) → Result B Misread
Ok x >>= f = f x
Err e >>= f = Err e

abbrev pub next_word : List ℕ → Result (List ℕ × List ℕ) Misread
next_word [] = Err (misread 0 Missing)
next_word (space ∷ rest) = Ok (word rest, drop (length (word rest)) rest)

-- what the word w before the bytes rest was read as, with those bytes
abbrev pub read_as : {A : Type 0} → List ℕ → List ℕ → Result A Problem → Result (A × List ℕ) Misread
read_as w rest (Ok x) = Ok (x, rest)
read_as w rest (Err p) = Err (misread (length w + length rest) p)

abbrev pub field_of : {A : Type 0} → (List ℕ → Result A Problem) → List ℕ → Result (A × List ℕ) Misread
field_of read bs = next_word bs >>= λ p. read_as p.0 p.1 (read p.0)

-- nothing may stand after the last field
abbrev pub done : {A : Type 0} → A → List ℕ → Result A Misread
done x [] = Ok x
done x (b ∷ bs) = Err (misread (length (b ∷ bs)) Surplus)

abbrev pub one : {A B : Type 0} → (List ℕ → Result A Problem) → (A → B) → List ℕ → Result B Misread
one read make bs = field_of read bs >>= λ p. done (make p.0) p.1

abbrev pub two : {A B C : Type 0} → (List ℕ → Result A Problem) → (List ℕ → Result B Problem) → (A → B → C) → List ℕ → Result C Misread
two read then make bs = field_of read bs >>= λ p. field_of then p.1 >>= λ q. done (make p.0 q.0) q.1

pub record Row : Type 0 where
  pub letter : ℕ
  pub command : List ℕ → Result Command Misread

abbrev pub row : ℕ → (List ℕ → Result Command Misread) → Row
row l c = record { letter = l; command = c }

abbrev pub rows : List Row
rows =
    row 71 (done Grow)  -- G
    ∷ row 76 (two level minute Begin)  -- L
    ∷ row 86 (one signed_number Value)  -- V
    ∷ row 70 (done Finish)  -- F
    ∷ row 65 (done GiveUp)  -- A
    ∷ row 80 (two minute signed_number Add)  -- P
    ∷ row 81 (one minute Point)  -- Q
    ∷ row 83 (two minute minute Sum)  -- S
    ∷ row 77 (two minute minute Mean)  -- M
    ∷ []

-- by the first of the rows that has the letter
abbrev pub command_by : List Row → ℕ → List ℕ → Result Command Misread
command_by [] letter rest = Err (misread (1 + length rest) Letter)
command_by (r ∷ rs) letter rest = cond (letter == r.letter) (r.command rest) (command_by rs letter rest)

-- by its letter and the bytes after that: an X, or a command
abbrev pub letter_feed : ℕ → List ℕ → Result (List ℕ) Misread
letter_feed letter rest = cond (letter == 88) (one hex_bytes (λ bs. bs) rest) (command_by rows letter rest >>= λ c. Ok (encode c))

-- nothing, or a space and what follows
abbrev pub are_fields : List ℕ → Bool
are_fields [] = true
are_fields (b ∷ bs) = b == 32

-- a line that is empty or begins with # says nothing
abbrev pub line_feed : List ℕ → Result (List ℕ) Misread
line_feed [] = Ok []
line_feed (b ∷ bs) = cond (b == 35) (Ok []) (cond (are_fields bs) (letter_feed b bs) (Err (misread (length (b ∷ bs)) Letter)))

-- texts

-- a line of so many bytes, the n-th of the text, was misread
abbrev pub fault_at : ℕ → ℕ → Misread → TextFault
fault_at n len m = record { line = n; column = 1 + (len - m.left); problem = m.problem }

abbrev pub joined : ℕ → ℕ → Result (List ℕ) Misread → Result (List ℕ) TextFault → Result (List ℕ) TextFault
joined n len (Err m) more = Err (fault_at n len m)
joined n len (Ok bs) (Err f) = Err f
joined n len (Ok bs) (Ok more) = Ok (bs ++ more)

abbrev pub feed_lines : ℕ → List (List ℕ) → Result (List ℕ) TextFault
feed_lines n [] = Ok []
feed_lines n (l ∷ ls) = joined n (length l) (line_feed l) (feed_lines (n + 1) ls)

abbrev pub feed_of : List ℕ → Result (List ℕ) TextFault
feed_of text = feed_lines 1 (slice_split (λ b. b == 10) text)
