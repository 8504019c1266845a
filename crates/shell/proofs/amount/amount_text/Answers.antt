use Rattle.std.proofs.Common.{◌≡◌, true, false, string_bytes, IfOk, sym, subst, ap, ◌∙◌, arith}
use Rattle.shell.specs.Amount.{rounded, reads_back}
use Rattle.shell.proofs.Amounts.{read_there, read_later, at_last}
use Rattle.shell.proofs.amount.amount_text.Goals as goal

pub returns-then-reads_back : goal.returns-then-reads_back
returns-then-reads_back c =
    let text = c.in_ok-text.ensures in
    let is : reads_back c.args.x (rounded c.args.x c.loop-places.places) ≡ true = sym (c.if-reads_back.ensures ∙ ap (reads_back c.args.x) (c.as_str.ensures.value ∙ text)) in
    text ∙ sym (c.loop-places.invariant ∙ read_there c.loop-places.places c.args.x (omega (arith, c.loop-places-test.true)) is)

pub loop-places-preserved : goal.loop-places-preserved
loop-places-preserved c =
    let is : reads_back c.args.x (rounded c.args.x c.loop-places.places) ≡ false =
    ap (reads_back c.args.x) (sym (c.as_str.ensures.value ∙ c.in_ok-text.ensures)) ∙ sym c.reads_back.ensures ∙ c.if-reads_back.false
    in
    c.loop-places.invariant ∙ read_later c.loop-places.places c.args.x (omega (arith, c.loop-places-test.true)) is

pub returns : goal.returns
returns c =
    let last = at_last c.loop-places.places c.args.x (omega (arith, c.loop-places-test.false, c.loop-places.auto.places-end)) in
    subst (λ t. IfOk c.rounded-2.result (λ text. string_bytes text ≡ t)) (sym (c.loop-places.invariant ∙ last)) c.rounded-2.ensures
