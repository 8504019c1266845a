-- A line can be read back from its bytes, so two lines with the same bytes are the same.
use Rattle.std.proofs.Common.{◌≡◌, ℕ, suc, ◌^◌, ◌<◌, ◌≤◌, cond, eqb, ltb, List, [], ◌∷◌, ◌++◌, get_or, drop, ℤ, pos, negsuc, neg_ℤ, decimal, sym, refl, ap, ◌∙◌, append_assoc, arith}
use Rattle.std.specs.List.{AllByRecursion}
use Rattle.std.specs.Str.Parse.{AllDigits, digits_value as value, signed_digits_value as signed_value}
use Rattle.std.specs.Fmt.{signed_decimal}
use Rattle.std.proofs.lemmas.Fmt.{decimal_is_IsNumeral}
use Rattle.std.proofs.lemmas.Str.Parse.{digit_at, digit_from_value}
use Rattle.std.proofs.lemmas.Bool.Decides.{nat_tests}
use Rattle.wire.specs.Line.{field, line_bytes, newline, InRangeLine, InRangeNumber, LinesApart}
use Rattle.wire.specs.declared.line.Line.{Line}
use Rattle.wire.specs.declared.line.Line.TheVariants.{Grown, Begun, Finished, GivenUp, Added, Point, Sum, Mean, Refused}

-- the bytes up to a space or a newline, and those past it
abbrev split : List ℕ → List ℕ × List ℕ
split [] = ([], [])
split (b ∷ bs) = cond (ltb b 33) ([], bs) (b ∷ (split bs).0, (split bs).1)

-- neither of the two is among them
abbrev pub Solid : List ℕ → Type 0
Solid ds = AllByRecursion (λ b. 33 ≤ b) ds

split_at : (ds : List ℕ) (s : ℕ) (xs : List ℕ) → Solid ds → s < 33 → split (ds ++ (s ∷ xs)) ≡ (ds, xs)
split_at [] s xs solid h = grind (arith, nat_tests)
split_at (b ∷ bs) s xs solid h = rw (split_at bs s xs solid.1 h) (grind (arith, nat_tests, solid.0))

solid_digits : (ds : List ℕ) → AllDigits 10 ds → Solid ds
solid_digits [] h = tt
solid_digits (c ∷ cs) h = (omega (arith, digit_from_value c h.0), solid_digits cs h.1)

pub solid_decimal : (n : ℕ) → n < 2 ^ 64 → Solid (decimal n)
solid_decimal n h = solid_digits (decimal n) (decimal_is_IsNumeral n h).0.1

solid_signed : (z : ℤ) → InRangeNumber z → Solid (signed_decimal z)
solid_signed (pos n) h = solid_decimal n (omega arith)
solid_signed (negsuc n) h = (omega arith, solid_decimal (suc n) (omega arith))

value_back : (n : ℕ) → n < 2 ^ 64 → value 10 (decimal n) ≡ n
value_back n h = (decimal_is_IsNumeral n h).1

signed_back : (z : ℤ) → InRangeNumber z → signed_value 10 (signed_decimal z) ≡ z
signed_back (pos n) h =
    let ds = (decimal_is_IsNumeral n (omega arith)).0 in
    let first = digit_at (decimal n) 0 ds.1 ds.0 in
    let here : signed_value 10 (decimal n) ≡ pos (value 10 (decimal n)) = grind (arith, nat_tests, first.0) in
    here ∙ ap pos (value_back n (omega arith))
signed_back (negsuc n) h = ap (λ (m : ℕ). neg_ℤ (pos m)) (value_back (suc n) (omega arith))

-- a line from its one field, from its two, and from its letter, each from the bytes past the first space
abbrev by_count : (ℕ → Line) → List ℕ → Line
by_count f xs = f (value 10 (split xs).0)

abbrev by_fields : {A : Type 0} → (A → ℕ → Line) → (List ℕ → A) → List ℕ → Line
by_fields f read xs = f (read (split xs).0) (value 10 (split (split xs).1).0)

abbrev line_by : ℕ → List ℕ → Line
line_by letter xs =
    cond (eqb letter 71) (by_count Grown xs)
    (cond (eqb letter 76) Begun
    (cond (eqb letter 70) (by_count Finished xs)
    (cond (eqb letter 65) (by_count GivenUp xs)
    (cond (eqb letter 80) (by_count Added xs)
    (cond (eqb letter 81) (by_fields Point (signed_value 10) xs)
    (cond (eqb letter 83) (by_fields Sum (signed_value 10) xs)
    (cond (eqb letter 77) (by_fields Mean (signed_value 10) xs)
    (by_fields Refused (value 10) xs))))))))

abbrev line_of : List ℕ → Line
line_of bs = line_by (get_or bs 0 0) (drop 2 bs)

-- the one field of a line, and the two
one_back : (n : ℕ) → n < 2 ^ 64 → split (decimal n ++ newline) ≡ (decimal n, [])
one_back n h = split_at (decimal n) 10 [] (solid_decimal n h) (omega arith)

two_back : (ds : List ℕ) (n : ℕ) → Solid ds → split (ds ++ field n ++ newline) ≡ (ds, decimal n ++ newline)
two_back ds n solid = rw append_assoc (split_at ds 32 (decimal n ++ newline) solid (omega arith))

count_back : (f : ℕ → Line) (n : ℕ) → n < 2 ^ 32 → by_count f (decimal n ++ newline) ≡ f n
count_back f n h = let small : n < 2 ^ 64 = omega arith in rw (one_back n small, value_back n small)

fields_back : {A : Type 0} (f : A → ℕ → Line) (read : List ℕ → A) (ds : List ℕ) (x : A) (n : ℕ) → Solid ds → read ds ≡ x → n < 2 ^ 64 → by_fields f read (ds ++ field n ++ newline) ≡ f x n
fields_back f read ds x n solid e h = rw (two_back ds n solid, one_back n h, e, value_back n h)

answer_back : (f : ℤ → ℕ → Line) (z : ℤ) (n : ℕ) → InRangeNumber z × (n < 2 ^ 32) → by_fields f (signed_value 10) (signed_decimal z ++ field n ++ newline) ≡ f z n
answer_back f z n h = fields_back f (signed_value 10) (signed_decimal z) z n (solid_signed z h.0) (signed_back z h.0) (omega arith)

line_back : (l : Line) → InRangeLine l → line_of (line_bytes l) ≡ l
line_back (Grown size) h = count_back Grown size (omega arith)
line_back Begun h = refl
line_back (Finished cells) h = count_back Finished cells h
line_back (GivenUp values) h = count_back GivenUp values h
line_back (Added cells) h = count_back Added cells h
line_back (Point value cells) h = answer_back Point value cells h
line_back (Sum sum cells) h = answer_back Sum sum cells h
line_back (Mean mean cells) h = answer_back Mean mean cells h
line_back (Refused number offset) h =
    let small : number < 2 ^ 64 = omega (arith, h.0) in
    fields_back Refused (value 10) (decimal number) number offset (solid_decimal number small) (value_back number small) h.1

pub lines_apart : LinesApart
lines_apart l m p q e = sym (line_back l p) ∙ ap line_of e ∙ line_back m q
