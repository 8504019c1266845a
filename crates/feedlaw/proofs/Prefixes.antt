-- A command at the front of some bytes is decoded alike with more bytes after them, but where it is cut short.
use Rattle.std.proofs.Common.{◌≡◌, ℕ, ◌+◌, ◌*◌, ◌^◌, ◌<◌, ◌≤◌, eqb, ltb, ◌⊎◌, List, [], ◌∷◌, ◌++◌, length, get_or, drop, Ok, Err, Result, sym, refl, ap, ◌∙◌, ap₂, inl, inr, ⊎_elim, arith, length-append, length-drop}
use lib.Seq.{drop-append-le, drop-append_seam}
use Rattle.std.proofs.lemmas.List.{get_or_append_left}
use Rattle.std.proofs.lemmas.Bool.{cases_lt, cases_eq, cond-true, cond-false, eq-eqb, ne_eqb, lt-ltb, le-ltb}
use Rattle.wire.specs.declared.command.Command.{Command}
use Rattle.wire.specs.declared.command.Command.TheVariants.{Begin, Value, Add, Point, Sum, Mean}
use Rattle.wire.specs.declared.command.DecodeFault.{DecodeFault}
use Rattle.wire.specs.declared.command.DecodeFault.TheVariants.{Cut}
use Rattle.wire.specs.Decode.{big_endian, twos_complement, Row, commands, decoded_as, decoded_by, decoded}

abbrev Answer : Type 0
Answer = Result (Command × List ℕ) DecodeFault

-- the same answer with more bytes after the rest
abbrev pub with_more : List ℕ → Answer → Answer
with_more more (Ok (c, rest)) = Ok (c, rest ++ more)
with_more more (Err f) = Err f

-- a row reads its command from its own bytes, of which there are at most nine
record Own (r : Row) : Type 0 where
  few : r.width ≤ 8
  local : (bs more : List ℕ) → r.width < length bs → r.command (bs ++ more) ≡ r.command bs

abbrev AllOwn : List Row → Type 0
AllOwn [] = Unit {0}
AllOwn (r ∷ rs) = Own r × AllOwn rs

module _ (bs more : List ℕ) where
  number_more : (i : ℕ) → i + 3 < length bs → big_endian (bs ++ more) i ≡ big_endian bs i
  number_more i h =
      ap₂ (λ (x y : ℕ). x + y)
      (ap₂ (λ (x y : ℕ). x + y)
      (ap₂ (λ (x y : ℕ). x * 2 ^ 24 + y * 2 ^ 16) (get_or_append_left bs more 0 i (omega arith)) (get_or_append_left bs more 0 (i + 1) (omega arith)))
      (ap (λ (x : ℕ). x * 2 ^ 8) (get_or_append_left bs more 0 (i + 2) (omega arith))))
      (get_or_append_left bs more 0 (i + 3) h)

  as_more : (r : Row) → Own r → ((length bs < 9) × (decoded_as r bs ≡ Err Cut)) ⊎ (decoded_as r (bs ++ more) ≡ with_more more (decoded_as r bs))
  as_more r own =
      ⊎_elim
      (λ (lt : length bs < 1 + r.width). inl (omega (arith, own.few), cond-true (ltb (length bs) (1 + r.width)) (Err Cut) _ (lt-ltb _ _ lt)))
      (λ (le : 1 + r.width ≤ length bs).
      let long : 1 + r.width ≤ length (bs ++ more) = omega (arith, length-append bs more) in
      let whole : decoded_as r bs ≡ Ok (r.command bs, drop (1 + r.width) bs) = cond-false (ltb (length bs) (1 + r.width)) (Err Cut) _ (le-ltb _ _ le) in
      inr
      (cond-false (ltb (length (bs ++ more)) (1 + r.width)) (Err Cut) _ (le-ltb _ _ long)
      ∙ ap₂ (λ (c : Command) (rest : List ℕ). Ok (c, rest)) (own.local bs more (omega arith)) (drop-append-le (1 + r.width) bs more le)
      ∙ sym (ap (with_more more) whole)))
      (cases_lt (length bs) (1 + r.width))

  by_more : (rs : List Row) → AllOwn rs → 0 < length bs → ((length bs < 9) × (decoded_by rs bs ≡ Err Cut)) ⊎ (decoded_by rs (bs ++ more) ≡ with_more more (decoded_by rs bs))
  by_more [] own h = inr refl
  by_more (r ∷ rs) own h =
      let same : get_or (bs ++ more) 0 0 ≡ get_or bs 0 0 = get_or_append_left bs more 0 0 h in
      ⊎_elim
      (λ (q : get_or bs 0 0 ≡ r.letter).
      let here : decoded_by (r ∷ rs) bs ≡ decoded_as r bs = cond-true (eqb (get_or bs 0 0) r.letter) _ _ (eq-eqb _ _ q) in
      let there : decoded_by (r ∷ rs) (bs ++ more) ≡ decoded_as r (bs ++ more) = cond-true (eqb (get_or (bs ++ more) 0 0) r.letter) _ _ (eq-eqb _ _ (same ∙ q)) in
      ⊎_elim (λ (u : (length bs < 9) × (decoded_as r bs ≡ Err Cut)). inl (u.0, here ∙ u.1)) (λ u. inr (there ∙ u ∙ sym (ap (with_more more) here))) (as_more r own.0))
      (λ (ne : get_or bs 0 0 ≡ r.letter → ⊥).
      let here : decoded_by (r ∷ rs) bs ≡ decoded_by rs bs = cond-false (eqb (get_or bs 0 0) r.letter) _ _ (ne_eqb _ _ ne) in
      let there : decoded_by (r ∷ rs) (bs ++ more) ≡ decoded_by rs (bs ++ more) = cond-false (eqb (get_or (bs ++ more) 0 0) r.letter) _ _ (ne_eqb _ _ (λ e. ne (sym same ∙ e))) in
      ⊎_elim (λ (u : (length bs < 9) × (decoded_by rs bs ≡ Err Cut)). inl (u.0, here ∙ u.1)) (λ u. inr (there ∙ u ∙ sym (ap (with_more more) here))) (by_more rs own.1 h))
      (cases_eq (get_or bs 0 0) r.letter)

all_own : AllOwn commands
all_own = (
  record { few = omega arith; local = λ bs more h. refl },
  (
    record { few = omega arith; local = λ bs more h. ap₂ Begin (get_or_append_left bs more 0 1 (omega arith)) (number_more bs more 2 (omega arith)) },
    (
      record { few = omega arith; local = λ bs more h. ap (λ n. Value (twos_complement n)) (number_more bs more 1 (omega arith)) },
      (
        record { few = omega arith; local = λ bs more h. refl },
        (
          record { few = omega arith; local = λ bs more h. refl },
          (
            record { few = omega arith; local = λ bs more h. ap₂ (λ m n. Add m (twos_complement n)) (number_more bs more 1 (omega arith)) (number_more bs more 5 (omega arith)) },
            (
              record { few = omega arith; local = λ bs more h. ap Point (number_more bs more 1 (omega arith)) },
              (
                record { few = omega arith; local = λ bs more h. ap₂ Sum (number_more bs more 1 (omega arith)) (number_more bs more 5 (omega arith)) },
                (
                  record { few = omega arith; local = λ bs more h. ap₂ Mean (number_more bs more 1 (omega arith)) (number_more bs more 5 (omega arith)) },
                  tt,
                ),
              ),
            ),
          ),
        ),
      ),
    ),
  ),
)

-- fewer than nine bytes may be a command cut short; else more bytes change nothing
pub decoded_more : (bs more : List ℕ) → 0 < length bs → ((length bs < 9) × (decoded bs ≡ Err Cut)) ⊎ (decoded (bs ++ more) ≡ with_more more (decoded bs))
decoded_more bs more h =
    let here : decoded bs ≡ decoded_by commands bs = cond-false (eqb (length bs) 0) (Err Cut) (decoded_by commands bs) (ne_eqb _ _ (λ e. omega arith)) in
    let there : decoded (bs ++ more) ≡ decoded_by commands (bs ++ more) = cond-false (eqb (length (bs ++ more)) 0) (Err Cut) (decoded_by commands (bs ++ more)) (ne_eqb _ _ (λ e. omega (arith, length-append bs more))) in
    ⊎_elim (λ (u : (length bs < 9) × (decoded_by commands bs ≡ Err Cut)). inl (u.0, here ∙ u.1)) (λ u. inr (there ∙ u ∙ sym (ap (with_more more) here))) (by_more bs more commands all_own h)

abbrev as_answer : Command × List ℕ → Answer
as_answer x = Ok x

ok_same : (x y : Command × List ℕ) (e : as_answer x ≡ as_answer y) → x ≡ y
ok_same x y e = cc

-- a command is read from its own bytes, whatever follows them
module _ (front rest more : List ℕ) (c : Command) (some : 0 < length front) where
  own_as : (r : Row) → Own r → decoded_as r (front ++ rest) ≡ Ok (c, rest) → decoded_as r (front ++ more) ≡ Ok (c, more)
  own_as r own e =
      ⊎_elim
      (λ (lt : length (front ++ rest) < 1 + r.width). absurd (let cut : decoded_as r (front ++ rest) ≡ Err Cut = cond-true (ltb (length (front ++ rest)) (1 + r.width)) _ _ (lt-ltb _ _ lt) in let q = sym cut ∙ e in cc))
      (λ (le : 1 + r.width ≤ length (front ++ rest)).
      let read : decoded_as r (front ++ rest) ≡ Ok (r.command (front ++ rest), drop (1 + r.width) (front ++ rest)) = cond-false (ltb (length (front ++ rest)) (1 + r.width)) (Err Cut) _ (le-ltb _ _ le) in
      let pair = ok_same (r.command (front ++ rest), drop (1 + r.width) (front ++ rest)) (c, rest) (sym read ∙ e) in
      let after : drop (1 + r.width) (front ++ rest) ≡ rest = ap (λ x. x.1) pair in
      let fewer : length (drop (1 + r.width) (front ++ rest)) ≡ length rest = ap length after in
      let width : length front ≡ 1 + r.width = omega (arith, le, length-append front rest, fewer, length-drop (1 + r.width) (front ++ rest)) in
      let long : 1 + r.width ≤ length (front ++ more) = omega (arith, width, length-append front more) in
      cond-false (ltb (length (front ++ more)) (1 + r.width)) (Err Cut) _ (le-ltb _ _ long)
      ∙ ap₂ (λ (x : Command) (xs : List ℕ). Ok (x, xs)) (own.local front more (omega (arith, width)) ∙ sym (own.local front rest (omega (arith, width))) ∙ ap (λ x. x.0) pair)
      (ap (λ i. drop i (front ++ more)) (sym width) ∙ drop-append_seam front more))
      (cases_lt (length (front ++ rest)) (1 + r.width))

  own_by : (rs : List Row) → AllOwn rs → decoded_by rs (front ++ rest) ≡ Ok (c, rest) → decoded_by rs (front ++ more) ≡ Ok (c, more)
  own_by [] own e = absurd cc
  own_by (r ∷ rs) own e =
      let same : get_or (front ++ more) 0 0 ≡ get_or (front ++ rest) 0 0 = get_or_append_left front more 0 0 some ∙ sym (get_or_append_left front rest 0 0 some) in
      ⊎_elim
      (λ (q : get_or (front ++ rest) 0 0 ≡ r.letter).
      cond-true (eqb (get_or (front ++ more) 0 0) r.letter) _ _ (eq-eqb _ _ (same ∙ q)) ∙ own_as r own.0 (sym (cond-true (eqb (get_or (front ++ rest) 0 0) r.letter) (decoded_as r (front ++ rest)) (decoded_by rs (front ++ rest)) (eq-eqb _ _ q)) ∙ e))
      (λ (ne : get_or (front ++ rest) 0 0 ≡ r.letter → ⊥).
      cond-false (eqb (get_or (front ++ more) 0 0) r.letter) _ _ (ne_eqb _ _ (λ x. ne (sym same ∙ x))) ∙ own_by rs own.1 (sym (cond-false (eqb (get_or (front ++ rest) 0 0) r.letter) (decoded_as r (front ++ rest)) (decoded_by rs (front ++ rest)) (ne_eqb _ _ ne)) ∙ e))
      (cases_eq (get_or (front ++ rest) 0 0) r.letter)

  by_commands : (xs : List ℕ) → decoded (front ++ xs) ≡ decoded_by commands (front ++ xs)
  by_commands xs = cond-false (eqb (length (front ++ xs)) 0) (Err Cut) (decoded_by commands (front ++ xs)) (ne_eqb _ _ (λ e. omega (arith, length-append front xs)))

  pub decoded_own : decoded (front ++ rest) ≡ Ok (c, rest) → decoded (front ++ more) ≡ Ok (c, more)
  decoded_own e = by_commands more ∙ own_by commands all_own (sym (by_commands rest) ∙ e)
