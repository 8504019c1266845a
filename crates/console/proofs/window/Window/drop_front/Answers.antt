use Rattle.std.proofs.Common.{◌≤◌, length, drop, ap, ◌∙◌, arith, length-take, rules}
use Rattle.console.proofs.Fronts.{moved}
use Rattle.console.proofs.window.Window.drop_front.Goals as goal

pub returns : goal.returns
returns c =
    let n = c.self.inside.len in
    let inside : c.args.used ≤ n = omega (arith, c.requires, ap length c.self.view_is, length-take n c.self.inside.bytes) in
    moved c.args.used n c.self.inside.bytes c.copy_within.new.self inside (search rules) c.copy_within.ensures.after ∙ ap (drop c.args.used) c.self.view_is
