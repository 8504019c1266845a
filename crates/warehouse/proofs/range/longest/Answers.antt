use Rattle.std.proofs.Common.{◌≡◌, ℕ, ◌-◌, ◌*◌, ◌^◌, ◌<◌, ◌≤◌, min, IfNone, IfSome, Some, None, Option, unwrap_or, ◌∙◌, arith}
use lib.Count.{count_trailing_zeros}
use Rattle.warehouse.specs.Read.{longest}
use Rattle.warehouse.proofs.Pieces.{longest_is, longest_least}
use Rattle.warehouse.proofs.range.longest.Goals as goal

-- the power of two that the length holds is there where the length is not 0
least : (n a b d : ℕ) (r : Option ℕ) → n ≤ 20 → d ≡ b - a → IfNone r (d ≡ 0) → IfSome r (λ k. 2 ^ k ≤ d) → IfSome r (λ k. d < 2 * 2 ^ k) → min (min n (count_trailing_zeros 32 a)) (unwrap_or r 0) ≡ longest n a b
least n a b d None h e z u v = longest_least n a b 0 (omega arith) (λ lt. absurd (omega arith)) (λ le. omega arith)
least n a b d (Some g) h e z u v = longest_least n a b g (omega arith) (λ lt. (omega arith, omega arith)) (λ le. absurd (omega arith))

same : (c : goal.After-min-2) → c.min-2.result ≡ longest c.args.size c.args.from c.args.to
same c =
    let e : c.min-2.result ≡ min (min c.args.size (count_trailing_zeros 32 c.args.from)) (unwrap_or c.checked_ilog2.result 0) = cc in
    e ∙ least c.args.size c.args.from c.args.to c.saturating_sub.result c.checked_ilog2.result c.requires c.saturating_sub.ensures c.checked_ilog2.ensures.none c.checked_ilog2.ensures.power_le c.checked_ilog2.ensures.next_power_gt

pub returns-clause-is : goal.returns-clause-is
returns-clause-is c = same c

pub returns-clause-end : goal.returns-clause-end
returns-clause-end c h = let u = longest_is c.args.size c.args.from c.args.to h in rw (same c) u.here.ends
