-- The words of a line, and what one stands for.
--
-- blank b               b is a space or a tab
-- blanks bs             how many blanks stand before the next word
-- begun bs              the bytes from the next word on
-- word bs, after bs     the next word, empty where none comes, and the bytes after it
-- numeral limit w       the number that the word w is in decimal, if it is below the limit
-- byte, half, number    the same at 8, 16 and 32 bits
-- banded w              the same of a flat store's bands, 5 at most
-- value w               the same of a 64-bit number with a minus sign or none
-- hex_bytes w           the bytes of a word of hex pairs; of an empty word, none
-- field_of read bs      what `read` makes of the next word, and the bytes after it
-- values_of read bs     what `read` makes of each word that comes
-- A word is misread with `left` bytes of the line to come, from its first on: that gives the column.
use Rattle.std.specs.Prelude.{ℕ, zero, suc, ◌+◌, ◌^◌, Bool, not, cond, ◌&&◌, ◌||◌, List, [], ◌∷◌, length, drop, ℤ, pos, neg_ℤ, Ok, Err, Result, ◌==◌, nat_lt, slice_index}
use Rattle.std.specs.List.{before_first, position_or_len, list_all}
use Rattle.std.specs.Char.{is_ascii_digit}
use Rattle.std.specs.Str.Parse.{digits_value}
use Rattle.hex.specs.Hex.{decode_of}
use Rattle.hex.specs.declared.error.FromHexError.{FromHexError}
use Rattle.shell.specs.declared.wrong.Why.{Why}
use Rattle.shell.specs.declared.wrong.Why.TheVariants.{Missing, NotNumber, TooLarge, NotHex}
use Rattle.shell.specs.declared.wrong.Misread.{Misread}
use Rattle.shell.specs.declared.words.Bands.{Bands}

abbrev pub misread : ℕ → Why → Misread
misread left why = record { left = left; why = why }

abbrev pub blank : ℕ → Bool
blank b = b == 32 || b == 9

abbrev pub blanks : List ℕ → ℕ
blanks bs = position_or_len (λ b. not (blank b)) bs

abbrev pub begun : List ℕ → List ℕ
begun bs = drop (blanks bs) bs

abbrev pub word : List ℕ → List ℕ
word bs = before_first blank (begun bs)

abbrev pub after : List ℕ → List ℕ
after bs = drop (length (word bs)) (begun bs)

-- what a word stands for

abbrev pub is_numeral : List ℕ → Bool
is_numeral w = nat_lt 0 (length w) && list_all is_ascii_digit w

abbrev pub numeral : ℕ → List ℕ → Result ℕ Why
numeral limit w = cond (is_numeral w) (cond (nat_lt (digits_value 10 w) limit) (Ok (digits_value 10 w)) (Err TooLarge)) (Err NotNumber)

abbrev pub byte : List ℕ → Result ℕ Why
byte w = numeral (2 ^ 8) w

abbrev pub half : List ℕ → Result ℕ Why
half w = numeral (2 ^ 16) w

abbrev pub number : List ℕ → Result ℕ Why
number w = numeral (2 ^ 32) w

abbrev pub map_ok : {A B E : Type 0} → (A → B) → Result A E → Result B E
map_ok f (Ok x) = Ok (f x)
map_ok f (Err e) = Err e

abbrev pub banded : List ℕ → Result Bands Why
banded w = map_ok (λ n. record { count = n }) (numeral 6 w)

abbrev pub value : List ℕ → Result ℤ Why
value w = cond (slice_index w 0 == 45) (map_ok (λ n. neg_ℤ (pos n)) (numeral (2 ^ 63 + 1) (drop 1 w))) (map_ok pos (numeral (2 ^ 63) w))

abbrev pub hex_or : Result (List ℕ) FromHexError → Result (List ℕ) Why
hex_or (Ok bs) = Ok bs
hex_or (Err e) = Err NotHex

abbrev pub hex_bytes : List ℕ → Result (List ℕ) Why
hex_bytes w = hex_or (decode_of w)

-- words, one after another

infixl 10 ◌>>=◌
abbrev pub ◌>>=◌ : {A B : Type 0} → Result A Misread → (A → Result B Misread) → Result B Misread
Ok x >>= f = f x
Err e >>= f = Err e

-- what was read of the next of the bytes bs, with the bytes after it
abbrev pub read_as : {A : Type 0} → List ℕ → Result A Why → Result (A × List ℕ) Misread
read_as bs (Ok x) = Ok (x, after bs)
read_as bs (Err why) = Err (misread (length (begun bs)) why)

abbrev pub field_of : {A : Type 0} → (List ℕ → Result A Why) → List ℕ → Result (A × List ℕ) Misread
field_of read bs = read_as bs (cond (length (begun bs) == 0) (Err Missing) (read (word bs)))

-- a number, which is 0 where no word comes
abbrev pub number_or_zero : List ℕ → Result (ℕ × List ℕ) Misread
number_or_zero bs = cond (length (begun bs) == 0) (Ok (0, bs)) (field_of number bs)

-- a word, or none
abbrev pub last_of : {A : Type 0} → (List ℕ → Result A Why) → List ℕ → Result (A × List ℕ) Misread
last_of read bs = read_as bs (read (word bs))

-- of at most k words
unfoldable pub values : {A : Type 0} → (List ℕ → Result A Why) → ℕ → List ℕ → Result (List A × List ℕ) Misread
values read zero bs = Ok ([], bs)
values read (suc k) bs =
    cond (length (begun bs) == 0) (Ok ([], bs)) (field_of read bs >>= λ p. values read k p.1 >>= λ q. Ok (p.0 ∷ q.0, q.1))

abbrev pub values_of : {A : Type 0} → (List ℕ → Result A Why) → List ℕ → Result (List A × List ℕ) Misread
values_of read bs = values read (length bs) bs
