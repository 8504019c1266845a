-- What the questions of a warehouse answer: what the definitions of reading back give, or a refusal.
--   refused, reading, trending   a call's answer as the shell's
--   asked        what a command answers that is a question; none is no question
use Rattle.std.specs.Prelude.{ℕ, min, ◌*◌, pos, Some, None, Option, Ok, Err, Result}
use Rattle.haar.specs.declared.trend.Trend as trends
use Rattle.store.specs.Free.{free_cells}
use Rattle.store.specs.Meaning.{Meaning}
use Rattle.warehouse.specs.declared.fault.Refusal.{Refusal}
use Rattle.warehouse.specs.declared.reading.Reading.{Reading}
use Rattle.warehouse.specs.Ask.{point_answer, sum_answer, mean_answer}
use Rattle.warehouse.specs.Grading.{trend_answer}
use Rattle.warehouse.specs.View.{known}
use Rattle.shell.specs.declared.answer.Answer.{Answer}
use Rattle.shell.specs.declared.answer.Answer.TheVariants as answers
use Rattle.shell.specs.declared.answer.Refused.TheVariants as refusals
use Rattle.shell.specs.declared.command.Command.{Command}
use Rattle.shell.specs.declared.command.Command.TheVariants.{Size, Mark, Free, Point, Sum, Mean, Trend, Busiest}
use Rattle.shell.specs.declared.wrong.Why.{Why}
use Rattle.shell.specs.declared.wrong.Why.TheVariants.{NoSecond}
use Rattle.gymshell.specs.declared.standing.Standing.{Standing}
use Rattle.gymshell.specs.Standing.{busiest_of, plain_of}

abbrev pub refused : Refusal → Answer
refused e = answers.Refused (refusals.Warehouse e)

abbrev pub reading : Result Reading Refusal → Answer
reading (Ok r) = answers.Reading r
reading (Err e) = refused e

abbrev pub trending : Result trends.Trend Refusal → Answer
trending (Ok t) = answers.Trend t
trending (Err e) = refused e

-- without a second pile there is no index
abbrev pub indexed_reading : Option (Result Reading Refusal) → Result Answer Why
indexed_reading None = Err NoSecond
indexed_reading (Some r) = Ok (reading r)

abbrev pub asked : {S : Type 0} → (S → Meaning) → Standing S → Command → Option (Result Answer Why)
asked means w Size = Some (Ok (answers.Number (pos (known means (plain_of w)).size)))
asked means w Mark = Some (Ok (answers.Number (pos (known means (plain_of w)).mark)))
asked means w Free = Some (Ok (answers.Number (pos (free_cells (means (plain_of w).store)))))
asked means w (Point i) = Some (Ok (reading (point_answer (known means (plain_of w)) i)))
asked means w (Sum a b) = Some (Ok (reading (sum_answer (known means (plain_of w)) a b)))
asked means w (Mean a b) = Some (Ok (reading (mean_answer (known means (plain_of w)) a b)))
asked means w (Trend j k) = Some (Ok (trending (trend_answer (known means (plain_of w)) j k)))
asked means w (Busiest a b) = Some (indexed_reading (busiest_of means w a b))
asked means w _ = None
