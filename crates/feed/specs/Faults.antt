-- The numbers of the feed's refusals, and the lines that they print.
use Rattle.std.specs.Prelude.{ℕ}
use Rattle.warehouse.specs.Faults.{fault_number}
use Rattle.feed.specs.declared.fault.Cause.{Cause}
use Rattle.feed.specs.declared.fault.Cause.TheVariants.{Decode, Sequence, Warehouse}
use Rattle.feed.specs.declared.fault.FeedFault.{FeedFault}
use Rattle.wire.specs.declared.line.Line.{Line}
use Rattle.wire.specs.declared.line.Line.TheVariants.{Refused}
use Rattle.wire.specs.Decode.{decode_fault_number}

abbrev pub cause_number : Cause → ℕ
cause_number (Decode f) = decode_fault_number f
cause_number Sequence = 30
cause_number (Warehouse r) = fault_number r.fault

abbrev pub fault_line : FeedFault → Line
fault_line f = Refused (cause_number f.cause) f.offset
