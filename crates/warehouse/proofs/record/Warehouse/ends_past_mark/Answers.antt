use Rattle.std.proofs.Common.{ap₂, rules, arith, nat_lt}
use Rattle.warehouse.proofs.Marks.{end_shl}
use Rattle.warehouse.proofs.record.Warehouse.ends_past_mark.Goals as goal

-- src/trend.rt:62:5
pub returns : goal.returns
returns g c = ap₂ nat_lt c.mark.ensures.is (end_shl _ c.args.level c.args.index (omega (arith, c.mark.ensures.few)) c.requires.0 c.requires.1)
