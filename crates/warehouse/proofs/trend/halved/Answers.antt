use Rattle.std.proofs.Common.{◌≡◌, ℕ, ◌+◌, ◌-◌, ◌^◌, ◌≤◌, length, false, refl, sym, ap, ◌∙◌, arith, rules}
use lib.Ieee.{Float, of_int, div, round, binary64}
use Rattle.std.specs.List.{range_with_len}
use Rattle.std.proofs.iter.Yields.{nat_range_steps}
use Rattle.std.proofs.lemmas.Fn.{fold_over}
use Rattle.std.proofs.lemmas.Iterator.{YieldsList-from_range}
use Rattle.std.proofs.lemmas.List.{length_push}
use Rattle.std.proofs.lemmas.List.FromFn.{length-range_with_len}
use Rattle.warehouse.proofs.Halving.{halve, two}
use Rattle.warehouse.proofs.trend.halved.Goals as goal

-- halved once more
next : (size n m : ℕ) (a b : Float) → size ≤ 2 ^ 53 → m ≡ n + 1 → (n ≤ 19 → a ≡ round binary64 false size (2 ^ n)) → b ≡ div binary64 a two → m ≤ 19 → b ≡ round binary64 false size (2 ^ m)
next size n m a b h e j q l = q ∙ ap (λ x. div binary64 x two) (j (omega arith)) ∙ halve size n h (omega arith) ∙ ap (λ (k : ℕ). round binary64 false size (2 ^ k)) (sym e)

pub returns : goal.returns
unfolding of_int
returns c =
    let n = length-range_with_len 1 (c.args.level - 1) in
    fold_over nat_range_steps (λ x. x) _ (λ ys x. length ys ≤ 19 → x ≡ round binary64 false c.args.size (2 ^ length ys)) _
    (λ ys a x b f' j k. (next c.args.size (length ys) _ a b c.requires.0 (length_push ys x) j (search rules), search rules))
    _ (range_with_len 1 (c.args.level - 1)) _ c.fold.result (YieldsList-from_range 1 c.args.level (c.args.level - 1) refl refl).runs (λ _. refl) c.fold.ensures.ran (omega arith)
    ∙ ap (λ (k : ℕ). round binary64 false c.args.size (2 ^ k)) n
