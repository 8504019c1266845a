use Rattle.std.proofs.Common.{◌≡◌, ◌<◌, ◌++◌, ◌∷◌, [], length, Err, sym, subst, arith, rules, tests}
use Rattle.shell.specs.declared.wrong.Unread.TheVariants.{Misread}
use Rattle.shell.specs.Words.{begun, value}
use Rattle.shell.proofs.Taking.{Taken, taken_more, taken_all, taken_refused, fewer}
use Rattle.shell.proofs.words.Words.take_values.Goals as goal

pub values-smaller : goal.values-smaller
values-smaller c =
    let some : 0 < length (begun c.values.self.rest.now) = omega (arith, c.left.ensures, c.values-test.true) in
    fewer value _ _ c.in_ok-value.value some c.in_ok-value.ensures

pub values-preserved : goal.values-preserved
values-preserved c =
    let some : 0 < length (begun c.values.self.rest.now) = omega (arith, c.left.ensures, c.values-test.true) in
    let pushed : c.push.new.self.items ≡ c.values.values.items ++ c.in_ok-value.value ∷ [] = search (rules, tests) in
    subst (λ xs. Taken value c.args.self.now.rest.now xs c.take.new.self.rest.now) (sym pushed)
    (taken_more value _ _ _ c.values.invariant c.in_ok-value.value _ some c.in_ok-value.ensures)

pub returns : goal.returns
returns c = taken_all value _ _ _ c.values.invariant (omega (arith, c.left.ensures, c.values-test.false))

pub returns-in_err-value : goal.returns-in_err-value
returns-in_err-value c =
    let some : 0 < length (begun c.values.self.rest.now) = omega (arith, c.left.ensures, c.values-test.true) in
    let is : c.from_residual.result ≡ Err (Misread c.in_err-value.field-0.0) = search (rules, tests) in
    rw is (taken_refused value _ _ _ c.values.invariant _ some c.in_err-value.ensures)
