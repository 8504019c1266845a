-- The lines of a feed, command by command.
use Rattle.std.proofs.Common.{◌≡◌, ℕ, zero, suc, ◌+◌, ◌-◌, ◌<◌, ◌≤◌, List, [], ◌∷◌, ◌++◌, length, ℤ, Ok, Err, Result, sym, refl, ap, ◌∙◌, append_assoc, arith}
use Rattle.wire.specs.declared.command.Command.{Command}
use Rattle.wire.specs.declared.command.DecodeFault.{DecodeFault}
use Rattle.wire.specs.declared.line.Line.{Line}
use Rattle.wire.specs.declared.line.Line.TheVariants as line
use Rattle.wire.specs.Decode.{decoded, decode_fault_number}
use Rattle.wire.specs.Line.{line_bytes}
use Rattle.wire.proofs.Rows.{shorter}
use Rattle.feedlaw.specs.Turns.{Desk, turn}
use Rattle.feedlaw.specs.Lines.{Told, ended, before, shown, telling_by, telling, told, text}

module _ (T : ℕ) (room : ℤ) where
  -- what comes after a command may be told in either of two ways that agree on shorter bytes
  by_same : (d : Desk) (o w : ℕ) (bs : List ℕ) (go go' : Desk → ℕ → List ℕ → Told) (r : Result (Command × List ℕ) DecodeFault) → decoded bs ≡ r
      → ((e : Desk) (p : ℕ) (rest : List ℕ) → length rest < length bs → go e p rest ≡ go' e p rest)
      → telling_by T room d o w go r ≡ telling_by T room d o w go' r
  by_same d o w bs go go' (Err f) e s = refl
  by_same d o w bs go go' (Ok (c, rest)) e s = ap (before (shown (turn T room d c o).line)) (s (turn T room d c o).desk (o + (w - length rest)) rest (shorter bs rest c e))

  -- more turns than bytes change nothing
  enough : (f g : ℕ) (d : Desk) (o : ℕ) (bs : List ℕ) → length bs ≤ f → length bs ≤ g → telling T room f d o bs ≡ telling T room g d o bs
  unfolding telling
  enough zero zero d o bs p q = refl
  enough zero (suc g) d o [] p q = refl
  enough zero (suc g) d o (b ∷ bs) p q = absurd (omega arith)
  enough (suc f) zero d o [] p q = refl
  enough (suc f) zero d o (b ∷ bs) p q = absurd (omega arith)
  enough (suc f) (suc g) d o [] p q = refl
  enough (suc f) (suc g) d o (b ∷ bs) p q =
      by_same d o (length (b ∷ bs)) (b ∷ bs) (telling T room f) (telling T room g) (decoded (b ∷ bs)) refl (λ e i rest h. enough f g e i rest (omega arith) (omega arith))

  pub told_none : (d : Desk) (o : ℕ) → told T room d o [] ≡ ended d
  unfolding telling
  told_none d o = refl

  told_by : (d : Desk) (o : ℕ) (bs : List ℕ) → 0 < length bs → told T room d o bs ≡ telling_by T room d o (length bs) (told T room) (decoded bs)
  unfolding telling
  told_by d o [] h = absurd (omega arith)
  told_by d o (b ∷ bs) h = by_same d o (length (b ∷ bs)) (b ∷ bs) (telling T room (length bs)) (told T room) (decoded (b ∷ bs)) refl (λ e i rest l. enough (length bs) (length rest) e i rest (omega arith) (omega arith))

  pub told_turn : (d : Desk) (o : ℕ) (bs rest : List ℕ) (c : Command) → decoded bs ≡ Ok (c, rest)
      → told T room d o bs ≡ before (shown (turn T room d c o).line) (told T room (turn T room d c o).desk (o + (length bs - length rest)) rest)
  told_turn d o bs rest c e = told_by d o bs (let s = shorter bs rest c e in omega arith) ∙ ap (telling_by T room d o (length bs) (told T room)) e

  pub told_stop : (d : Desk) (o : ℕ) (bs : List ℕ) (f : DecodeFault) → 0 < length bs → decoded bs ≡ Err f → told T room d o bs ≡ before (line.Refused (decode_fault_number f) o ∷ []) (ended d)
  told_stop d o bs f h e = told_by d o bs h ∙ ap (telling_by T room d o (length bs) (told T room)) e

-- some lines, and then others
pub before_both : (ls ms : List Line) (t : Told) → before ls (before ms t) ≡ before (ls ++ ms) t
before_both ls ms t = ap (λ x. record { lines = x; desk = t.desk }) (sym (append_assoc ls ms t.lines))

pub text_append : (ls ms : List Line) → text (ls ++ ms) ≡ text ls ++ text ms
text_append [] ms = refl
text_append (l ∷ ls) ms = ap (λ x. line_bytes l ++ x) (text_append ls ms) ∙ sym (append_assoc (line_bytes l) (text ls) (text ms))
