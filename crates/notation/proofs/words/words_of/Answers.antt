use Rattle.std.proofs.Common.{◌≡◌, ℕ, ◌<◌, List, [], ◌++◌, length, sym, subst, ap, ◌∙◌, append_assoc, arith}
use Rattle.std.proofs.lemmas.Bool.Decides.{nat_tests}
use Rattle.std.specs.Prelude.{codes}
use Rattle.wire.specs.Line.{newline}
use Rattle.notation.specs.Words.{part_words}
use Rattle.notation.proofs.Coming.{Coming, coming_more, coming_none, coming_last}
use Rattle.notation.proofs.words.words_of.Goals as goal

line : (out at told : List ℕ) → out ++ (codes "at byte " ++ (at ++ (codes ": " ++ (told ++ newline)))) ≡ out ++ ((codes "at byte " ++ (at ++ codes ": ")) ++ told ++ newline)
line out at told = ap (λ x. out ++ (codes "at byte " ++ x)) (sym (append_assoc (at ++ codes ": ") told newline ∙ append_assoc at (codes ": ") (told ++ newline)))

pub commands-preserved-in-Ok : goal.commands-preserved-in-Ok
commands-preserved-in-Ok c =
    subst (Coming part_words c.args.feed.now c.in-Ok.after.now) (sym (c.in_ok-writeln-in-Ok.ensures.bytes ∙ line _ _ _)) (coming_more part_words _ _ _ _ c.in-Ok.command c.commands.invariant c.in-Ok.ensures)

pub commands-preserved : goal.commands-preserved
commands-preserved c =
    let some : 0 < length c.commands.rest.now = grind (arith, nat_tests, c.commands-test.ensures) in
    subst (Coming part_words c.args.feed.now []) (sym (c.in_ok-writeln-in-Err.ensures.bytes ∙ line _ _ _)) (coming_last part_words _ _ _ c.in-Err.fault c.commands.invariant some c.in-Err.ensures)

pub returns : goal.returns
returns c =
    let none : length c.commands.rest.now ≡ 0 = grind (arith, nat_tests, c.commands-test.ensures) in
    ap (λ v. v.items) c.into_bytes.ensures.value ∙ coming_none part_words _ _ _ c.commands.invariant none
