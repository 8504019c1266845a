-- Questions change nothing, and founding founds.
use Rattle.std.proofs.Common.{◌≡◌, ℕ, Some, None, Ok, Err, Option, Result, refl, ap, ◌∙◌, subst}
use Rattle.haar.specs.declared.trend.Trend.{Trend}
use Rattle.store.specs.Meaning.{Meaning, Same}
use Rattle.warehouse.specs.declared.fault.Asked.{Asked}
use Rattle.warehouse.specs.declared.fault.Asked.TheVariants.{Interval, Minute, Minutes}
use Rattle.warehouse.specs.declared.fault.Fault.{Fault}
use Rattle.warehouse.specs.declared.fault.Refusal.{Refusal}
use Rattle.warehouse.specs.declared.reading.Reading.{Reading}
use Rattle.warehouse.specs.Ask.{point_reading, sum_reading, mean_reading, point_answer, sum_answer, mean_answer}
use Rattle.warehouse.specs.Ask as ask
use Rattle.warehouse.specs.Grading.{trend_reading, trend_answer}
use Rattle.warehouse.specs.Faults.{fault_alone}
use Rattle.warehouse.specs.Founding.{cut}
use Rattle.warehouse.specs.View.{view}
use Rattle.agreement.specs.Call.{Call, point, sum, mean, trend, Answer}
use Rattle.agreement.specs.Check.{or, fault_in}
use Rattle.agreement.specs.Check as checks
use Rattle.agreement.specs.Reply.{or_refused, reading_reply, trend_reply}
use Rattle.agreement.proofs.Calls.{founds}
use Rattle.agreement.proofs.Steps as plain-steps
use Rattle.indexed.specs.Piles.{Piles, Founded}
use Rattle.indexed.specs.Busiest.{busiest_answer}
use Rattle.indexed.specs.Doing.{piles, Surveyed, Surveys}
use Rattle.indexed.specs.Writing.{index_refusal}
use Rattle.indexed.specs.Step.{IndexedCall, plain, busiest, refusal, reply, Changes, ChangesBy, Step}
use Rattle.indexed.specs.Steps.{StepsHold}
use Rattle.indexed.specs.History.{founding, Begins}
use Rattle.indexed.proofs.Keeping.{founded_begins}
use Rattle.indexed.proofs.Able.{unchanged}

module _ (v : Piles) where
  same : Same v.index v.index
  same = record { bands = refl; cells = λ _ _. refl; room = refl }

  asks : (o : Option Fault) (call : IndexedCall) → Changes v call v → ChangesBy o v call v
  asks None call d = d
  asks (Some f) call d = unchanged v

  -- a refusal of a question repeats what was asked for, as its answer does
  numbered : (asked : Asked) (q : Result Reading Fault) → reading_reply (ask.refused asked q) ≡ or_refused (or (fault_in (ask.refused asked q)) None) asked (reading_reply (ask.refused asked q))
  numbered asked (Ok x) = refl
  numbered asked (Err f) = refl

  trended : (asked : Asked) (q : Result Trend Fault) → trend_reply (ask.refused asked q) ≡ or_refused (or (fault_in (ask.refused asked q)) None) asked (trend_reply (ask.refused asked q))
  trended asked (Ok x) = refl
  trended asked (Err f) = refl

  -- a question of the first pile
  question : (call : Call) (a : Answer) → a ≡ reply v (plain call) → Changes v (plain call) v → Step v (plain call) a v
  question call a e d = record { answers = e; changes = asks (refusal v (plain call)) (plain call) d }

  point_step : (i : ℕ) (r : Result Reading Refusal) → r ≡ point_answer v.first i → Step v (plain (point i)) (reading_reply r) v
  unfolding checks.refusal index_refusal point_answer
  point_step i r e = question (point i) (reading_reply r) (ap reading_reply e ∙ numbered (Minute i) (point_reading v.first i)) (plain-steps.unchanged v.first, same)

  sum_step : (a b : ℕ) (r : Result Reading Refusal) → r ≡ sum_answer v.first a b → Step v (plain (sum a b)) (reading_reply r) v
  unfolding checks.refusal index_refusal sum_answer
  sum_step a b r e = question (sum a b) (reading_reply r) (ap reading_reply e ∙ numbered (Minutes a b) (sum_reading v.first a b)) (plain-steps.unchanged v.first, same)

  mean_step : (a b : ℕ) (r : Result Reading Refusal) → r ≡ mean_answer v.first a b → Step v (plain (mean a b)) (reading_reply r) v
  unfolding checks.refusal index_refusal mean_answer
  mean_step a b r e = question (mean a b) (reading_reply r) (ap reading_reply e ∙ numbered (Minutes a b) (mean_reading v.first a b)) (plain-steps.unchanged v.first, same)

  trend_step : (j k : ℕ) (r : Result Trend Refusal) → r ≡ trend_answer v.first j k → Step v (plain (trend j k)) (trend_reply r) v
  unfolding checks.refusal index_refusal trend_answer
  trend_step j k r e = question (trend j k) (trend_reply r) (ap trend_reply e ∙ trended (Interval j k) (trend_reading v.first j k)) (plain-steps.unchanged v.first, same)

  busiest_step : (a b : ℕ) (r : Result Reading Refusal) → r ≡ busiest_answer v a b → Step v (busiest a b) (reading_reply r) v
  busiest_step a b r e = record { answers = ap reading_reply e; changes = asks (refusal v (busiest a b)) (busiest a b) (unchanged v) }

founded : (m i : Meaning) (n : ℕ) (r : Result Unit Refusal) → Surveys m i n r → r ≡ Ok tt → Founded (piles (view m (cut m n) 0) i) × Begins (founding (piles (view m (cut m n) 0) i))
founded m i n r s e =
    let f : Surveyed m i n (Ok tt) = subst (λ q. Surveyed m i n (fault_alone q)) e s.found in
    let v : Founded (piles (view m (cut m n) 0) i) = record { first = (founds m n f.first).0; bands = f.bands; empty = f.empty; room = f.room } in
    (v, founded_begins (piles (view m (cut m n) 0) i) v)

pub steps : StepsHold
steps = record { found = founded; point = point_step; sum = sum_step; mean = mean_step; trend = trend_step; busiest = busiest_step }
