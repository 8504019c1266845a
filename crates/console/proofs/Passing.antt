-- Some commands of a feed, and then others.
use Rattle.std.proofs.Common.{◌≡◌, ℕ, ◌+◌, ◌-◌, ◌<◌, List, [], ◌∷◌, ◌++◌, length, Ok, sym, refl, ap, ◌∙◌, subst, ⊎_elim, append_assoc, arith, length-append}
use Rattle.store.specs.declared.interface.Store.{Ghosts}
use Rattle.wire.specs.declared.command.Command.{Command}
use Rattle.wire.specs.declared.line.Line.{Line}
use Rattle.wire.specs.Decode.{decoded}
use Rattle.wire.proofs.Rows.{shorter}
use Rattle.feed.specs.Step.{said}
use Rattle.feedlaw.specs.Lines.{shown, text}
use Rattle.feedlaw.proofs.Prefixes.{with_more, decoded_more}
use Rattle.feedlaw.proofs.Telling.{text_append}
use Rattle.console.specs.Playing.{State, Turn, Passed, printed}

-- a command is decoded alike, with more bytes after it
pub decoded_with : (bs rest cs : List ℕ) (c : Command) → decoded bs ≡ Ok (c, rest) → decoded (bs ++ cs) ≡ Ok (c, rest ++ cs)
decoded_with bs rest cs c e =
    let short = shorter bs rest c e in
    ⊎_elim (λ u. absurd (let q = sym u.1 ∙ e in cc)) (λ u. u ∙ ap (with_more cs) e) (decoded_more bs cs (omega arith))

pub width_with : (bs rest cs : List ℕ) → length rest < length bs → length (bs ++ cs) - length (rest ++ cs) ≡ length bs - length rest
width_with bs rest cs h = omega (arith, length-append bs cs, length-append rest cs)

pub passed_more : {S : Type 0} (kind : Ghosts S) (s t u : State S) (o : ℕ) (bs cs : List ℕ) (xs ys : List (Turn S))
    → Passed kind s o bs xs t → Passed kind t (o + length bs) cs ys u → Passed kind s o (bs ++ cs) (xs ++ ys) u
passed_more kind s t u o bs cs [] ys p q =
    let z : o + length bs ≡ o = omega (arith, ap length p.0) in
    subst (λ b. Passed kind s o (b ++ cs) ys u) (sym p.0) (subst (λ i. Passed kind s i cs ys u) z (subst (λ x. Passed kind x (o + length bs) cs ys u) p.1 q))
passed_more kind s t u o bs cs (x ∷ xs) ys p q =
    let rest = p.0 in
    let short = shorter bs rest x.command p.1 in
    let end : o + length bs ≡ (o + (length bs - length rest)) + length rest = omega arith in (
      rest ++ cs,
      decoded_with bs rest cs x.command p.1,
      p.2,
      subst (λ w. Passed kind x.left (o + w) (rest ++ cs) (xs ++ ys) u) (sym (width_with bs rest cs short))
          (passed_more kind x.left t u (o + (length bs - length rest)) rest cs xs ys p.3 (subst (λ i. Passed kind t i cs ys u) end q)),
    )

pub printed_append : {S : Type 0} (xs ys : List (Turn S)) → printed (xs ++ ys) ≡ printed xs ++ printed ys
printed_append [] ys = refl
printed_append (x ∷ xs) ys = ap (λ ls. shown (said x.reply) ++ ls) (printed_append xs ys) ∙ sym (append_assoc (shown (said x.reply)) (printed xs) (printed ys))

-- what two parts of a feed gave the sink, one after the other
pub took_both : (K K' K'' : List ℕ → Type 0) (ls ms : List Line) → ((w : List ℕ) → K w → K' (w ++ text ls)) → ((w : List ℕ) → K' w → K'' (w ++ text ms)) → (w : List ℕ) → K w → K'' (w ++ text (ls ++ ms))
took_both K K' K'' ls ms p q w k =
    subst K'' (append_assoc w (text ls) (text ms) ∙ sym (ap (λ x. w ++ x) (text_append ls ms))) (q (w ++ text ls) (p w k))

-- lines that are the same
pub took_same : (K K' : List ℕ → Type 0) (ls ms : List Line) → ls ≡ ms → ((w : List ℕ) → K w → K' (w ++ text ls)) → (w : List ℕ) → K w → K' (w ++ text ms)
took_same K K' ls ms e t w k = subst (λ x. K' (w ++ text x)) e (t w k)

-- and what turns printed
pub took_turns : {S : Type 0} (K K' K'' : List ℕ → Type 0) (xs ys : List (Turn S)) → ((w : List ℕ) → K w → K' (w ++ text (printed xs))) → ((w : List ℕ) → K' w → K'' (w ++ text (printed ys)))
    → (w : List ℕ) → K w → K'' (w ++ text (printed (xs ++ ys)))
took_turns K K' K'' xs ys p q = took_same K K'' (printed xs ++ printed ys) (printed (xs ++ ys)) (sym (printed_append xs ys)) (took_both K K' K'' (printed xs) (printed ys) p q)
