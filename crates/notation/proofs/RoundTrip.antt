-- A feed comes back from its text.
use Rattle.std.proofs.Common.{◌≡◌, ℕ, zero, suc, ◌+◌, ◌-◌, ◌^◌, ◌<◌, ◌≤◌, cond, false, List, [], ◌∷◌, ◌++◌, length, decimal, Ok, Err, Result, refl, ap, ap₂, ◌∙◌, append_assoc, append-nil, arith}
use Rattle.std.specs.Fmt.{signed_decimal}
use Rattle.std.specs.List.{slice_split, onto_first, flat_map, AllByRecursion}
use Rattle.std.proofs.lemmas.Bool.{ne_eqb}
use Rattle.hex.specs.Hex.{IsBytes, encode_lower}
use Rattle.wire.specs.Decode.{decoded}
use Rattle.wire.specs.Encode.{encode, InRange}
use Rattle.wire.specs.declared.command.Command.{Command}
use Rattle.wire.specs.declared.command.Command.TheVariants.{Grow, Begin, Value, Finish, GiveUp, Add, Point, Sum, Mean}
use Rattle.wire.specs.declared.command.DecodeFault.{DecodeFault}
use Rattle.notation.specs.Parts.{part_by, parts}
use Rattle.notation.specs.Text.{command_line, bytes_line, part_line}
use Rattle.notation.specs.Reading.{line_feed, joined, feed_lines}
use Rattle.notation.specs.Law.{RoundTrip}
use Rattle.notation.proofs.Decoded.{decoded_back}
use Rattle.wire.proofs.Rows.{shorter}
use Rattle.notation.proofs.Lines.{is_newline}
use Rattle.wire.proofs.Apart.{Solid, solid_decimal}
use Rattle.notation.proofs.ReadBack.{solid_signed, solid_hex, command_back, bytes_back}

-- no newline is among the bytes
abbrev InLine : List ℕ → Type 0
InLine l = AllByRecursion (λ b. 11 ≤ b) l

solid_in_line : (ds : List ℕ) → Solid ds → InLine ds
solid_in_line [] h = tt
solid_in_line (d ∷ ds) h = (omega (arith, h.0), solid_in_line ds h.1)

both_in_line : (xs ys : List ℕ) → InLine xs → InLine ys → InLine (xs ++ ys)
both_in_line [] ys h k = k
both_in_line (x ∷ xs) ys h k = (h.0, both_in_line xs ys h.1 k)

-- a field, and two
field_in_line : (l : ℕ) (ds : List ℕ) → 11 ≤ l → Solid ds → InLine (l ∷ 32 ∷ ds)
field_in_line l ds h solid = (h, (omega arith, solid_in_line ds solid))

fields_in_line : (l : ℕ) (ds es : List ℕ) → 11 ≤ l → Solid ds → Solid es → InLine (l ∷ 32 ∷ (ds ++ 32 ∷ es))
fields_in_line l ds es h solid others = (h, (omega arith, both_in_line ds (32 ∷ es) (solid_in_line ds solid) (omega arith, solid_in_line es others)))

number_solid : (n : ℕ) → n < 2 ^ 32 → Solid (decimal n)
number_solid n h = solid_decimal n (omega arith)

command_in_line : (c : Command) → InRange c → InLine (command_line c)
command_in_line Grow h = (omega arith, tt)
command_in_line (Begin l i) h = fields_in_line 76 (decimal l) (decimal i) (omega arith) (solid_decimal l (omega (arith, h.0))) (number_solid i h.1)
command_in_line (Value v) h = field_in_line 86 (signed_decimal v) (omega arith) (solid_signed v h)
command_in_line Finish h = (omega arith, tt)
command_in_line GiveUp h = (omega arith, tt)
command_in_line (Add m v) h = fields_in_line 80 (decimal m) (signed_decimal v) (omega arith) (number_solid m h.0) (solid_signed v h.1)
command_in_line (Point m) h = field_in_line 81 (decimal m) (omega arith) (number_solid m h)
command_in_line (Sum a b) h = fields_in_line 83 (decimal a) (decimal b) (omega arith) (number_solid a h.0) (number_solid b h.1)
command_in_line (Mean a b) h = fields_in_line 77 (decimal a) (decimal b) (omega arith) (number_solid a h.0) (number_solid b h.1)

-- the first line of a text
split_line : (l xs : List ℕ) → InLine l → slice_split is_newline (l ++ 10 ∷ xs) ≡ l ∷ slice_split is_newline xs
split_line [] xs h = refl
split_line (b ∷ l) xs h =
    let other : is_newline b ≡ false = ne_eqb b 10 (λ e. omega (arith, h.0)) in
    ap (λ t. cond t ([] ∷ slice_split is_newline (l ++ 10 ∷ xs)) (onto_first b (slice_split is_newline (l ++ 10 ∷ xs)))) other
    ∙ ap (onto_first b) (split_line l xs h.1)

line_back : (n : ℕ) (l xs bs rest : List ℕ) → InLine l → line_feed l ≡ Ok bs → feed_lines (n + 1) (slice_split is_newline xs) ≡ Ok rest
    → feed_lines n (slice_split is_newline ((l ++ 10 ∷ []) ++ xs)) ≡ Ok (bs ++ rest)
line_back n l xs bs rest h e f =
    ap (λ t. feed_lines n (slice_split is_newline t)) (append_assoc l (10 ∷ []) xs)
    ∙ ap (feed_lines n) (split_line l xs h)
    ∙ ap₂ (joined n (length l)) e f

abbrev text_from : ℕ → ℕ → List ℕ → List ℕ
text_from k at bs = flat_map part_line (parts k at bs)

-- the text of these bytes stands for them
abbrev Returns : ℕ → ℕ → ℕ → List ℕ → Type 0
Returns k n at bs = feed_lines n (slice_split is_newline (text_from k at bs)) ≡ Ok bs

part_back : (k n at : ℕ) (bs : List ℕ) (r : Result (Command × List ℕ) DecodeFault) → decoded bs ≡ r → 0 < length bs → IsBytes bs
    → ((i : ℕ) (rest : List ℕ) → length rest < length bs → IsBytes rest → Returns k (n + 1) i rest)
    → feed_lines n (slice_split is_newline (flat_map part_line (part_by at bs (parts k) r))) ≡ Ok bs
part_back k n at bs (Ok (c, rest)) e some bytes after =
    let d = decoded_back bs rest c bytes e in
    let next = at + (length bs - length rest) in
    line_back n (command_line c) (text_from k next rest) (encode c) rest (command_in_line c d.fits) (command_back c d.fits) (after next rest (shorter bs rest c e) d.bytes)
    ∙ ap Ok d.back
part_back k n at bs (Err f) e some bytes after =
    line_back n (bytes_line bs) [] bs [] (field_in_line 88 (encode_lower bs) (omega arith) (solid_hex bs bytes)) (bytes_back bs bytes some) refl
    ∙ ap Ok (append-nil bs)

parts_back : (k n at : ℕ) (bs : List ℕ) → length bs ≤ k → IsBytes bs → Returns k n at bs
unfolding parts
parts_back zero n at [] h bytes = refl
parts_back zero n at (b ∷ bs) h bytes = absurd (omega arith)
parts_back (suc k) n at [] h bytes = refl
parts_back (suc k) n at (b ∷ bs) h bytes =
    part_back k n at (b ∷ bs) (decoded (b ∷ bs)) refl (omega arith) bytes (λ i rest less fits. parts_back k (n + 1) i rest (omega arith) fits)

pub round_trip : RoundTrip
round_trip bs bytes = parts_back (length bs) 1 0 bs (omega arith) bytes
