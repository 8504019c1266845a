-- The row of the table by which a command was decoded, and that it leaves fewer bytes.
use Rattle.std.proofs.Common.{◌≡◌, ℕ, ◌+◌, ◌-◌, ◌<◌, eqb, ltb, List, [], ◌∷◌, length, get_or, drop, Ok, Err, Result, sym, ap, ◌∙◌, inl, inr, arith, length-drop}
use Rattle.std.proofs.lemmas.Bool.{cases_lt, cases_eq, cond-true, cond-false, eq-eqb, ne_eqb, lt-ltb, le-ltb}
use Rattle.wire.specs.declared.command.Command.{Command}
use Rattle.wire.specs.declared.command.Command.TheVariants.{Grow}
use Rattle.wire.specs.declared.command.DecodeFault.{DecodeFault}
use Rattle.wire.specs.declared.command.DecodeFault.TheVariants.{Cut}
use Rattle.wire.specs.Decode.{Row, decoded_as, decoded_by, decoded, commands}

-- what a row does with bytes that have its letter and all its operands
pub record Reads (bs rest : List ℕ) (c : Command) (r : Row) : Type 0 where
  pub letter : get_or bs 0 0 ≡ r.letter
  pub long : r.width < length bs
  pub command : r.command bs ≡ c
  pub after : drop (1 + r.width) bs ≡ rest

abbrev pub AllRows : (Row → Type 0) → List Row → Type 0
AllRows P [] = Unit {0}
AllRows P (r ∷ rs) = P r × AllRows P rs

abbrev Answer : Type 0
Answer = Result (Command × List ℕ) DecodeFault

abbrev command_in : Answer → Command
command_in (Ok p) = p.0
command_in (Err f) = Grow

abbrev rest_in : Answer → List ℕ
rest_in (Ok p) = p.1
rest_in (Err f) = []

module _ (P : Row → Type 0) (bs rest : List ℕ) (c : Command) where
  abbrev pub Found : Type 0
  Found = (r : Row) × P r × Reads bs rest c r

  as_row : (r : Row) → P r → get_or bs 0 0 ≡ r.letter → decoded_as r bs ≡ Ok (c, rest) → Found
  as_row r p l e =
      elim (cases_lt (length bs) (1 + r.width)) [
        | inl lt ↦
            let short : decoded_as r bs ≡ Err Cut = cond-true (ltb (length bs) (1 + r.width)) _ _ (lt-ltb _ _ lt) in
            absurd cc
        | inr le ↦
            let whole : decoded_as r bs ≡ Ok (r.command bs, drop (1 + r.width) bs) = cond-false (ltb (length bs) (1 + r.width)) _ _ (le-ltb _ _ le) in
            (r, p, record { letter = l; long = omega arith; command = ap command_in (sym whole ∙ e); after = ap rest_in (sym whole ∙ e) })
      ]

  by_rows : (rs : List Row) → AllRows P rs → decoded_by rs bs ≡ Ok (c, rest) → Found
  by_rows [] ps e = absurd cc
  by_rows (r ∷ rs) ps e =
      elim (cases_eq (get_or bs 0 0) r.letter) [
        | inl q ↦ as_row r ps.0 q (sym (cond-true (eqb (get_or bs 0 0) r.letter) (decoded_as r bs) (decoded_by rs bs) (eq-eqb _ _ q)) ∙ e)
        | inr ne ↦ by_rows rs ps.1 (sym (cond-false (eqb (get_or bs 0 0) r.letter) (decoded_as r bs) (decoded_by rs bs) (ne_eqb _ _ ne)) ∙ e)
      ]

  -- the row by which a command was decoded
  pub row_of : AllRows P commands → decoded bs ≡ Ok (c, rest) → Found
  row_of ps e =
      elim (cases_eq (length bs) 0) [
        | inl q ↦
            let none : decoded bs ≡ Err Cut = cond-true (eqb (length bs) 0) _ _ (eq-eqb _ _ q) in
            absurd cc
        | inr ne ↦ by_rows commands ps (sym (cond-false (eqb (length bs) 0) (Err Cut) (decoded_by commands bs) (ne_eqb _ _ ne)) ∙ e)
      ]

any_rows : AllRows (λ r. Unit {0}) commands
any_rows = (tt, (tt, (tt, (tt, (tt, (tt, (tt, (tt, (tt, tt)))))))))

pub shorter : (bs rest : List ℕ) (c : Command) → decoded bs ≡ Ok (c, rest) → length rest < length bs
shorter bs rest c e =
    let f = row_of (λ r. Unit {0}) bs rest c any_rows e in
    omega (arith, f.2.long, ap length (sym f.2.after) ∙ length-drop (1 + f.0.width) bs)

-- as many bytes were read as the rest is shorter
pub after_command : (bs rest : List ℕ) (c : Command) → decoded bs ≡ Ok (c, rest) → rest ≡ drop (length bs - length rest) bs
after_command bs rest c e =
    let f = row_of (λ r. Unit {0}) bs rest c any_rows e in
    let n : length rest ≡ length bs - (1 + f.0.width) = ap length (sym f.2.after) ∙ length-drop (1 + f.0.width) bs in
    let k : 1 + f.0.width ≡ length bs - length rest = omega (arith, f.2.long) in
    sym f.2.after ∙ ap (λ i. drop i bs) k
