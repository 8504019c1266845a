use Rattle.std.proofs.Common.{◌≡◌, ◌<◌, ◌++◌, length, string_bytes, sym, subst, ap, ◌∙◌, arith}
use Rattle.std.proofs.lemmas.Bool.Decides.{nat_tests}
use Rattle.std.specs.Prelude.{codes}
use Rattle.wire.specs.Line.{newline}
use Rattle.notation.specs.Text.{part_line}
use Rattle.notation.proofs.Coming.{Coming, coming_more, coming_none, coming_unread}
use Rattle.notation.proofs.text.text_of.Goals as goal
use Rattle.notation.proofs.text.text_of.Goals.{then-not-is_empty+in_ok-encode+in_ok-writeln-2, else-not-is_empty}

pub commands-preserved : goal.commands-preserved
commands-preserved c =
    subst (Coming part_line c.args.feed.now c.in-Ok.after.now) (sym c.in_ok-writeln.ensures.bytes) (coming_more part_line _ _ _ _ c.in-Ok.command c.commands.invariant c.in-Ok.ensures)

pub returns : goal.returns
returns c =
    elim c.if-not-is_empty.branch [
      | then-not-is_empty+in_ok-encode+in_ok-writeln-2 w ↦
          let some : 0 < length c.commands.rest.now = grind (arith, nat_tests, w.if-not-is_empty.ensures) in
          ap (λ v. v.items) c.into_bytes.ensures.value
          ∙ ap string_bytes w.text-is
          ∙ w.in_ok-writeln-2.ensures.bytes
          ∙ ap (λ h. string_bytes c.commands.text ++ (codes "X " ++ (h ++ newline))) w.in_ok-encode.ensures
          ∙ coming_unread part_line _ _ _ c.in_default.field-0 c.commands.invariant some c.in_default.ensures
      | else-not-is_empty w ↦
          let none : length c.commands.rest.now ≡ 0 = grind (arith, nat_tests, w.if-not-is_empty.ensures) in
          ap (λ v. v.items) c.into_bytes.ensures.value ∙ ap string_bytes w.text-is ∙ coming_none part_line _ _ _ c.commands.invariant none
    ]
