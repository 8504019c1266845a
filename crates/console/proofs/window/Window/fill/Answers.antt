use Rattle.std.proofs.Common.{◌++◌, take, ap, ◌∙◌, arith, length-take, rules}
use Rattle.console.proofs.Fronts.{filled}
use Rattle.console.proofs.window.Window.fill.Goals as goal

pub returns : goal.returns
returns g c =
    let gave = c.in_ok-many.ensures in
    let n = c.in_ok-many.many in
    let ys = c.read.new.buffer in
    record {
      got = take n ys;
      many = length-take n ys ∙ omega (arith, gave.within);
      added = filled c.self.inside.len _ n c.self.inside.bytes ys (search rules) gave.within ∙ ap (λ xs. xs ++ take n ys) c.self.view_is;
      given = gave.before;
      some = gave.some;
      ended = λ e. gave.ended e (search rules);
    }
