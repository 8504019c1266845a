-- A line that was written is read back.
use Rattle.std.proofs.Common.{◌≡◌, ℕ, suc, ◌+◌, ◌/◌, ◌%◌, ◌^◌, ◌<◌, ◌≤◌, true, false, cond, eqb, ltb, ◌&&◌, List, [], ◌∷◌, ◌++◌, length, get_or, drop, ℤ, pos, negsuc, neg_ℤ, decimal, Some, Ok, Err, Result, sym, refl, ap, ap₂, ◌∙◌, append-nil, arith, rules}
use Rattle.std.specs.Char.{is_ascii_digit}
use Rattle.std.specs.Fmt.{signed_decimal}
use Rattle.std.specs.List.{list_all}
use Rattle.std.proofs.Math.Seq.{drop-append_seam}
use Rattle.std.proofs.lemmas.Bool.{cond-true, cond-false, ne_eqb, lt-ltb}
use Rattle.std.proofs.lemmas.Bool.Decides.{nat_tests}
use Rattle.std.proofs.lemmas.Fmt.{decimal_is_IsNumeral, digits_decimal}
use Rattle.std.proofs.lemmas.Grind.{common_steps}
use Rattle.std.proofs.lemmas.Str.Parse.{IsDigitsTest, digit_at, numerals_by_value}
use Rattle.hex.specs.Hex.{IsBytes, encode_with, encode_lower, lower_digits, hex_digit_value}
use Rattle.hex.proofs.HexLemmas.{IsDigits-lower_digits, length-encode_with, decode_of-encode_lower}
use Rattle.wire.proofs.Apart.{Solid, solid_decimal}
use Rattle.wire.specs.Encode.{encode, InRange, InRangeSigned}
use Rattle.wire.specs.declared.command.Command.{Command}
use Rattle.wire.specs.declared.command.Command.TheVariants.{Grow, Begin, Value, Finish, GiveUp, Add, Point, Sum, Mean}
use Rattle.notation.specs.declared.fault.Misread.{Misread}
use Rattle.notation.specs.declared.fault.Problem.{Problem}
use Rattle.notation.specs.declared.fault.Problem.TheVariants.{TooLarge, NotHex}
use Rattle.notation.specs.Text.{command_line, bytes_line}
use Rattle.notation.specs.Reading.{word, is_numeral, number, level, minute, signed_number, map_ok, hex_or, hex_bytes, read_as, field_of, one, two, are_fields, line_feed, ◌>>=◌}

pub solid_signed : (z : ℤ) → InRangeSigned z → Solid (signed_decimal z)
solid_signed (pos n) h = solid_decimal n (omega arith)
solid_signed (negsuc n) h = (omega arith, solid_decimal (suc n) (omega arith))

solid_digit : (b d : ℕ) → hex_digit_value b ≡ Some d → 33 ≤ b
solid_digit b d e = grind (arith, nat_tests)

pub solid_hex : (bs : List ℕ) → IsBytes bs → Solid (encode_lower bs)
unfolding encode_with
solid_hex [] h = tt
solid_hex (b ∷ bs) h =
    let byte = h 0 in (
      solid_digit (get_or lower_digits (b / 16) 0) (b / 16) (IsDigits-lower_digits (b / 16) (omega arith)),
      (solid_digit (get_or lower_digits (b % 16) 0) (b % 16) (IsDigits-lower_digits (b % 16) (omega arith)), solid_hex bs (λ i. h (suc i))),
    )

-- words

word_more : (b : ℕ) (bs : List ℕ) → 33 ≤ b → word (b ∷ bs) ≡ b ∷ word bs
word_more b bs h = let no : eqb b 32 ≡ false = ne_eqb b 32 (λ e. omega arith) in grind (arith, common_steps)

word_back : (ds xs : List ℕ) → Solid ds → are_fields xs ≡ true → word (ds ++ xs) ≡ ds
word_back [] [] h f = refl
word_back [] (x ∷ xs) h f = grind (arith, common_steps)
word_back (d ∷ ds) xs h f = word_more d (ds ++ xs) h.0 ∙ ap (λ w. d ∷ w) (word_back ds xs h.1 f)

field_back : {A : Type 0} (read : List ℕ → Result A Problem) (x : A) (ds xs : List ℕ) → Solid ds → are_fields xs ≡ true → read ds ≡ Ok x → field_of read (32 ∷ (ds ++ xs)) ≡ Ok (x, xs)
field_back read x ds xs h f e =
    ap (λ w. read_as w (drop (length w) (ds ++ xs)) (read w)) (word_back ds xs h f)
    ∙ ap₂ (λ rest r. read_as ds rest r) (drop-append_seam ds xs) e

last_back : {A : Type 0} (read : List ℕ → Result A Problem) (x : A) (ds : List ℕ) → Solid ds → read ds ≡ Ok x → field_of read (32 ∷ ds) ≡ Ok (x, [])
last_back read x ds h e = ap (λ w. field_of read (32 ∷ w)) (sym (append-nil ds)) ∙ field_back read x ds [] h refl e

one_back : {A B : Type 0} (read : List ℕ → Result A Problem) (make : A → B) (x : A) (ds : List ℕ) → Solid ds → read ds ≡ Ok x → one read make (32 ∷ ds) ≡ Ok (make x)
one_back read make x ds h e = rw (last_back read x ds h e) refl

two_back : {A B C : Type 0} (read : List ℕ → Result A Problem) (then : List ℕ → Result B Problem) (make : A → B → C) (x : A) (y : B) (ds es : List ℕ)
    → Solid ds → read ds ≡ Ok x → Solid es → then es ≡ Ok y → two read then make (32 ∷ (ds ++ 32 ∷ es)) ≡ Ok (make x y)
two_back read then make x y ds es h e k f = rw (field_back read x ds (32 ∷ es) h refl e, last_back then y es k f) refl

-- numbers

digits_test : IsDigitsTest (λ ds. list_all is_ascii_digit ds ≡ true)
digits_test = search rules

numeral : (n : ℕ) → n < 2 ^ 64 → is_numeral (decimal n) ≡ true
numeral n h =
    ap₂ (λ x y. x && y) (lt-ltb 0 (length (decimal n)) (decimal_is_IsNumeral n h).0.0) (digits_decimal (numerals_by_value _ digits_test) n h)

number_back : (limit n : ℕ) → n < limit → n < 2 ^ 64 → number limit (decimal n) ≡ Ok n
number_back limit n h small =
    cond-true (is_numeral (decimal n)) _ _ (numeral n small)
    ∙ ap (λ (m : ℕ). cond (ltb m limit) (Ok m) (Err TooLarge)) (decimal_is_IsNumeral n small).1
    ∙ cond-true (ltb n limit) _ _ (lt-ltb n limit h)

minute_back : (n : ℕ) → n < 2 ^ 32 → minute (decimal n) ≡ Ok n
minute_back n h = number_back (2 ^ 32) n h (omega arith)

level_back : (n : ℕ) → n < 2 ^ 8 → level (decimal n) ≡ Ok n
level_back n h = number_back (2 ^ 8) n h (omega arith)

value_back : (z : ℤ) → InRangeSigned z → signed_number (signed_decimal z) ≡ Ok z
value_back (pos n) h =
    let ds = (decimal_is_IsNumeral n (omega arith)).0 in
    let first = digit_at (decimal n) 0 ds.1 ds.0 in
    let plus : eqb (get_or (decimal n) 0 0) 45 ≡ false = ne_eqb _ _ (λ e. omega (arith, first)) in
    cond-false (eqb (get_or (decimal n) 0 0) 45) _ _ plus ∙ ap (map_ok pos) (number_back (2 ^ 31) n h (omega arith))
value_back (negsuc n) h = ap (map_ok (λ (m : ℕ). neg_ℤ (pos m))) (number_back (2 ^ 31 + 1) (suc n) (omega arith) (omega arith))

-- lines

minute_solid : (n : ℕ) → n < 2 ^ 32 → Solid (decimal n)
minute_solid n h = solid_decimal n (omega arith)

level_solid : (n : ℕ) → n < 2 ^ 8 → Solid (decimal n)
level_solid n h = solid_decimal n (omega arith)

pub command_back : (c : Command) → InRange c → line_feed (command_line c) ≡ Ok (encode c)
command_back Grow h = refl
command_back (Begin l i) h = ap (λ (r : Result Command Misread). r >>= λ c. Ok (encode c)) (two_back level minute Begin l i (decimal l) (decimal i) (level_solid l h.0) (level_back l h.0) (minute_solid i h.1) (minute_back i h.1))
command_back (Value v) h = ap (λ (r : Result Command Misread). r >>= λ c. Ok (encode c)) (one_back signed_number Value v (signed_decimal v) (solid_signed v h) (value_back v h))
command_back Finish h = refl
command_back GiveUp h = refl
command_back (Add m v) h = ap (λ (r : Result Command Misread). r >>= λ c. Ok (encode c)) (two_back minute signed_number Add m v (decimal m) (signed_decimal v) (minute_solid m h.0) (minute_back m h.0) (solid_signed v h.1) (value_back v h.1))
command_back (Point m) h = ap (λ (r : Result Command Misread). r >>= λ c. Ok (encode c)) (one_back minute Point m (decimal m) (minute_solid m h) (minute_back m h))
command_back (Sum a b) h = ap (λ (r : Result Command Misread). r >>= λ c. Ok (encode c)) (two_back minute minute Sum a b (decimal a) (decimal b) (minute_solid a h.0) (minute_back a h.0) (minute_solid b h.1) (minute_back b h.1))
command_back (Mean a b) h = ap (λ (r : Result Command Misread). r >>= λ c. Ok (encode c)) (two_back minute minute Mean a b (decimal a) (decimal b) (minute_solid a h.0) (minute_back a h.0) (minute_solid b h.1) (minute_back b h.1))

pub bytes_back : (bs : List ℕ) → IsBytes bs → 0 < length bs → line_feed (bytes_line bs) ≡ Ok bs
bytes_back bs h some =
    let long : eqb (length (encode_lower bs)) 0 ≡ false = ne_eqb _ _ (λ e. omega (arith, length-encode_with lower_digits bs)) in
    let read : hex_bytes (encode_lower bs) ≡ Ok bs = cond-false (eqb (length (encode_lower bs)) 0) (Err NotHex) _ long ∙ ap hex_or (decode_of-encode_lower bs h) in
    one_back hex_bytes (λ xs. xs) bs (encode_lower bs) (solid_hex bs h) read
