-- A decoded command, encoded, gives back the bytes that it was decoded from.
use Rattle.std.proofs.Common.{◌≡◌, ℕ, ◌+◌, ◌-◌, ◌*◌, ◌/◌, ◌%◌, ◌^◌, ◌<◌, ltb, List, [], ◌∷◌, ◌++◌, length, get_or, drop, pos, negsuc, Ok, sym, refl, ap, ◌∙◌, inl, inr, append_assoc, arith, ap₂, subst}
use Rattle.std.proofs.lemmas.Bool.{cases_lt, cond-true, cond-false, lt-ltb, le-ltb}
use Rattle.std.proofs.lemmas.List.{drop_more, get_or-drop}
use Rattle.hex.specs.Hex.{IsBytes}
use Rattle.wire.specs.declared.command.Command.{Command}
use Rattle.wire.specs.Decode.{big_endian, twos_complement, Row, decoded, commands}
use Rattle.wire.proofs.Rows.{AllRows, row_of}
use Rattle.wire.specs.Encode.{four_bytes, bits_of, encode, InRange, InRangeSigned}

-- numbers

bytes_back : (a b c d : ℕ) → a < 2 ^ 8 → b < 2 ^ 8 → c < 2 ^ 8 → d < 2 ^ 8
    → four_bytes (a * 2 ^ 24 + b * 2 ^ 16 + c * 2 ^ 8 + d) ≡ a ∷ b ∷ c ∷ d ∷ []
bytes_back a b c d p q r s =
    let n = a * 2 ^ 24 + b * 2 ^ 16 + c * 2 ^ 8 + d in
    let first : n / 2 ^ 24 ≡ a = omega arith in
    let second : n / 2 ^ 16 % 2 ^ 8 ≡ b = omega arith in
    let third : n / 2 ^ 8 % 2 ^ 8 ≡ c = omega arith in
    let fourth : n % 2 ^ 8 ≡ d = omega arith in
    cc

bits_back : (n : ℕ) → n < 2 ^ 32 → bits_of (twos_complement n) ≡ n
bits_back n h =
    elim (cases_lt n (2 ^ 31)) [
      | inl lt ↦ ap bits_of (cond-true (ltb n (2 ^ 31)) (pos n) (negsuc (2 ^ 32 - 1 - n)) (lt-ltb _ _ lt))
      | inr le ↦ ap bits_of (cond-false (ltb n (2 ^ 31)) (pos n) (negsuc (2 ^ 32 - 1 - n)) (le-ltb _ _ le)) ∙ omega arith
    ]

bits_fit : (n : ℕ) → n < 2 ^ 32 → InRangeSigned (twos_complement n)
bits_fit n h =
    elim (cases_lt n (2 ^ 31)) [
      | inl lt ↦ rw (cond-true (ltb n (2 ^ 31)) (pos n) (negsuc (2 ^ 32 - 1 - n)) (lt-ltb _ _ lt)) lt
      | inr le ↦ rw (cond-false (ltb n (2 ^ 31)) (pos n) (negsuc (2 ^ 32 - 1 - n)) (le-ltb _ _ le)) (omega arith)
    ]

module _ (bs : List ℕ) (bytes : IsBytes bs) where
  number_fits : (i : ℕ) → big_endian bs i < 2 ^ 32
  number_fits i = omega (arith, bytes i, bytes (i + 1), bytes (i + 2), bytes (i + 3))

  step : (i j : ℕ) → j ≡ i + 1 → i < length bs → drop i bs ≡ get_or bs i 0 ∷ drop j bs
  step i j e h = drop_more bs i 0 h ∙ ap (λ k. get_or bs i 0 ∷ drop k bs) (sym e)

  front : (i : ℕ) → i + 3 < length bs → drop i bs ≡ get_or bs i 0 ∷ get_or bs (i + 1) 0 ∷ get_or bs (i + 2) 0 ∷ get_or bs (i + 3) 0 ∷ drop (i + 4) bs
  front i h =
      let a : drop i bs ≡ get_or bs i 0 ∷ drop (i + 1) bs = step i (i + 1) (omega arith) (omega arith) in
      let b : drop (i + 1) bs ≡ get_or bs (i + 1) 0 ∷ drop (i + 2) bs = step (i + 1) (i + 2) (omega arith) (omega arith) in
      let c : drop (i + 2) bs ≡ get_or bs (i + 2) 0 ∷ drop (i + 3) bs = step (i + 2) (i + 3) (omega arith) (omega arith) in
      let d : drop (i + 3) bs ≡ get_or bs (i + 3) 0 ∷ drop (i + 4) bs = step (i + 3) (i + 4) (omega arith) (omega arith) in
      cc

  number_back : (i : ℕ) → i + 3 < length bs → four_bytes (big_endian bs i) ++ drop (i + 4) bs ≡ drop i bs
  number_back i h =
      ap (λ x. x ++ drop (i + 4) bs) (bytes_back (get_or bs i 0) (get_or bs (i + 1) 0) (get_or bs (i + 2) 0) (get_or bs (i + 3) 0) (bytes i) (bytes (i + 1)) (bytes (i + 2)) (bytes (i + 3)))
      ∙ sym (front i h)

  value_back : (i : ℕ) → i + 3 < length bs → four_bytes (bits_of (twos_complement (big_endian bs i))) ++ drop (i + 4) bs ≡ drop i bs
  value_back i h = ap (λ n. four_bytes n ++ drop (i + 4) bs) (bits_back (big_endian bs i) (number_fits i)) ∙ number_back i h

  whole : (l : ℕ) → get_or bs 0 0 ≡ l → 0 < length bs → l ∷ drop 1 bs ≡ bs
  whole l e h = ap (λ b. b ∷ drop 1 bs) (sym e) ∙ sym (drop_more bs 0 0 h)

-- what was read is as it was written, and in range
record Back (r : Row) : Type 0 where
  back : (bs : List ℕ) → IsBytes bs → get_or bs 0 0 ≡ r.letter → r.width < length bs → encode (r.command bs) ++ drop (1 + r.width) bs ≡ bs
  fits : (bs : List ℕ) → IsBytes bs → InRange (r.command bs)

back_L : (bs : List ℕ) → IsBytes bs → get_or bs 0 0 ≡ 76 → 5 < length bs → 76 ∷ get_or bs 1 0 ∷ four_bytes (big_endian bs 2) ++ drop 6 bs ≡ bs
back_L bs bytes l h =
    let level : drop 1 bs ≡ get_or bs 1 0 ∷ drop 2 bs = drop_more bs 1 0 (omega arith) in
    ap (λ x. 76 ∷ get_or bs 1 0 ∷ x) (number_back bs bytes 2 (omega arith)) ∙ ap (λ x. 76 ∷ x) (sym level) ∙ whole bs bytes 76 l (omega arith)

two_numbers : (bs : List ℕ) (l n : ℕ) → IsBytes bs → get_or bs 0 0 ≡ l → 8 < length bs → n ≡ big_endian bs 5
    → (l ∷ four_bytes (big_endian bs 1) ++ four_bytes n) ++ drop 9 bs ≡ bs
two_numbers bs l n bytes e h is =
    ap (λ x. l ∷ x) (append_assoc (four_bytes (big_endian bs 1)) (four_bytes n) (drop 9 bs) ∙ ap (λ k. four_bytes (big_endian bs 1) ++ (four_bytes k ++ drop 9 bs)) is ∙ ap (λ x. four_bytes (big_endian bs 1) ++ x) (number_back bs bytes 5 (omega arith)) ∙ number_back bs bytes 1 (omega arith))
    ∙ whole bs bytes l e (omega arith)

all_back : AllRows Back commands
all_back = (
  record { back = λ bs b l h. whole bs b 71 l h; fits = λ bs b. tt },
  (
    record { back = back_L; fits = λ bs b. (b 1, number_fits bs b 2) },
    (
      record { back = λ bs b l h. ap (λ x. 86 ∷ x) (value_back bs b 1 (omega arith)) ∙ whole bs b 86 l (omega arith); fits = λ bs b. bits_fit (big_endian bs 1) (number_fits bs b 1) },
      (
        record { back = λ bs b l h. whole bs b 70 l h; fits = λ bs b. tt },
        (
          record { back = λ bs b l h. whole bs b 65 l h; fits = λ bs b. tt },
          (
            record { back = λ bs b l h. two_numbers bs 80 _ b l h (bits_back (big_endian bs 5) (number_fits bs b 5)); fits = λ bs b. (number_fits bs b 1, bits_fit (big_endian bs 5) (number_fits bs b 5)) },
            (
              record { back = λ bs b l h. ap (λ x. 81 ∷ x) (number_back bs b 1 (omega arith)) ∙ whole bs b 81 l (omega arith); fits = λ bs b. number_fits bs b 1 },
              (
                record { back = λ bs b l h. two_numbers bs 83 _ b l h refl; fits = λ bs b. (number_fits bs b 1, number_fits bs b 5) },
                (
                  record { back = λ bs b l h. two_numbers bs 77 _ b l h refl; fits = λ bs b. (number_fits bs b 1, number_fits bs b 5) },
                  tt,
                ),
              ),
            ),
          ),
        ),
      ),
    ),
  ),
)

pub record Decoded (bs rest : List ℕ) (c : Command) : Type 0 where
  pub back : encode c ++ rest ≡ bs
  pub fits : InRange c
  pub bytes : IsBytes rest

pub decoded_back : (bs rest : List ℕ) (c : Command) → IsBytes bs → decoded bs ≡ Ok (c, rest) → Decoded bs rest c
decoded_back bs rest c bytes e =
    let f = row_of Back bs rest c all_back e in
    let r = f.0 in
    let reads = f.2 in
    record {
      back = ap₂ (λ d xs. encode d ++ xs) (sym reads.command) (sym reads.after) ∙ f.1.back bs bytes reads.letter reads.long;
      fits = subst InRange reads.command (f.1.fits bs bytes);
      bytes = subst IsBytes reads.after (λ i. subst (λ n. n < 2 ^ 8) (sym (get_or-drop (1 + r.width) bs i 0)) (bytes (1 + r.width + i)));
    }
