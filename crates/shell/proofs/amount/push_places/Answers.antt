use Rattle.std.proofs.Common.{ℕ, ◌-◌, ◌/◌, ◌%◌, ◌<◌, List, ◌++◌, decimal, sym, ap, ◌∙◌, arith}
use Rattle.shell.specs.Amount.{places}
use Rattle.shell.proofs.Amounts.{come_more}
use Rattle.shell.proofs.amount.push_places.Goals as goal

pub places-preserved : goal.places-preserved
places-preserved c =
    let some : 0 < c.places.left = omega (arith, c.places-test.true) in
    record {
      most = omega (arith, c.places.invariant.most);
      come =
          come_more _ _ _ c.places.left c.args.n some (ap (λ (q : ℕ). decimal (c.args.n / q % 10)) c.power.ensures.is) c.places.invariant.come
          ∙ ap (λ (t : List ℕ). t ++ places (c.places.left - 1) c.args.n) (sym c.in_ok-write.ensures.bytes);
    }
