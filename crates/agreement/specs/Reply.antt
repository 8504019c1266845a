-- What a call answers, on any view.
--   or_refused      an answer, unless there is a fault
--   reading_reply   the answer of a question for a number, and trend_reply of one for a trend
--   written_reply   the answer of a point addition, and finish_reply of a load's finish
--   growth_reply    the answer of a growth
--   reply           what the call answers
use Rattle.std.specs.Prelude.{ℕ, suc, Some, None, Ok, Err, Option, Result}
use Rattle.haar.specs.declared.trend.Trend.{Trend}
use Rattle.haar.specs.Count.{W}
use Rattle.warehouse.specs.declared.fault.Asked.{Asked}
use Rattle.warehouse.specs.declared.fault.Fault.{Fault}
use Rattle.warehouse.specs.declared.fault.Refusal.{Refusal}
use Rattle.warehouse.specs.declared.reading.Reading.{Reading}
use Rattle.warehouse.specs.Ask.{point_answer, sum_answer, mean_answer}
use Rattle.warehouse.specs.Grading.{trend_answer}
use Rattle.warehouse.specs.View.{View}
use Rattle.loads.specs.declared.open.RefusedLoad.{RefusedLoad}
use Rattle.agreement.specs.Call.{Call, load, add, grow, settle, point, sum, mean, trend, Answer, wrote, grown, settled, gave, tends, refused, repeats}
use Rattle.agreement.specs.Check.{refusal}

abbrev pub or_refused : Option Fault → Asked → Answer → Answer
or_refused None asked answer = answer
or_refused (Some f) asked answer = refused (record { fault = f; asked = asked })

abbrev pub reading_reply : Result Reading Refusal → Answer
reading_reply (Ok r) = gave r.value r.cells
reading_reply (Err e) = refused e

abbrev pub trend_reply : Result Trend Refusal → Answer
trend_reply (Ok t) = tends t
trend_reply (Err e) = refused e

abbrev pub written_reply : Result ℕ Refusal → Answer
written_reply (Ok w) = wrote w
written_reply (Err e) = refused e

abbrev pub finish_reply : Result ℕ RefusedLoad → Answer
finish_reply (Ok w) = wrote w
finish_reply (Err e) = refused e.refusal

abbrev pub growth_reply : Result ℕ Refusal → Answer
growth_reply (Ok n) = grown n
growth_reply (Err e) = refused e

abbrev pub reply : View → Call → Answer
reply v (load m p taken buffer) = or_refused (refusal v (load m p taken buffer)) (repeats v.size (load m p taken buffer)) (wrote (W m v.size))
reply v (add i x) = or_refused (refusal v (add i x)) (repeats v.size (add i x)) (wrote (W 0 v.size))
reply v grow = or_refused (refusal v grow) (repeats v.size grow) (grown (suc v.size))
reply v settle = settled
reply v (point i) = reading_reply (point_answer v i)
reply v (sum a b) = reading_reply (sum_answer v a b)
reply v (mean a b) = reading_reply (mean_answer v a b)
reply v (trend j k) = trend_reply (trend_answer v j k)
