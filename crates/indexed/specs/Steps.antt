-- Each call of an indexed warehouse makes a step, and founding founds; the contracts of the calls that change it say their steps themselves.
use Rattle.std.specs.Prelude.{◌≡◌, ℕ, Ok, Result}
use Rattle.haar.specs.declared.trend.Trend.{Trend}
use Rattle.store.specs.Meaning.{Meaning}
use Rattle.warehouse.specs.declared.fault.Refusal.{Refusal}
use Rattle.warehouse.specs.declared.reading.Reading.{Reading}
use Rattle.warehouse.specs.Ask.{point_answer, sum_answer, mean_answer}
use Rattle.warehouse.specs.Founding.{cut}
use Rattle.warehouse.specs.Grading.{trend_answer}
use Rattle.warehouse.specs.View.{view}
use Rattle.agreement.specs.Call.{point, sum, mean, trend}
use Rattle.agreement.specs.Reply.{reading_reply, trend_reply}
use Rattle.indexed.specs.Piles.{Piles, Founded}
use Rattle.indexed.specs.Busiest.{busiest_answer}
use Rattle.indexed.specs.Doing.{piles, Surveys}
use Rattle.indexed.specs.Step.{plain, busiest, Step}
use Rattle.indexed.specs.History.{founding, Begins}

pub record StepsHold : Type 0 where
  -- two stores that a survey accepted, taken over with that size and the mark 0, are founded, and begin with no data
  pub found : (m i : Meaning) (n : ℕ) (r : Result Unit Refusal) → Surveys m i n r → r ≡ Ok tt → Founded (piles (view m (cut m n) 0) i) × Begins (founding (piles (view m (cut m n) 0) i))
  pub point : (v : Piles) (i : ℕ) (r : Result Reading Refusal) → r ≡ point_answer v.first i → Step v (plain (point i)) (reading_reply r) v
  pub sum : (v : Piles) (a b : ℕ) (r : Result Reading Refusal) → r ≡ sum_answer v.first a b → Step v (plain (sum a b)) (reading_reply r) v
  pub mean : (v : Piles) (a b : ℕ) (r : Result Reading Refusal) → r ≡ mean_answer v.first a b → Step v (plain (mean a b)) (reading_reply r) v
  pub trend : (v : Piles) (j k : ℕ) (r : Result Trend Refusal) → r ≡ trend_answer v.first j k → Step v (plain (trend j k)) (trend_reply r) v
  pub busiest : (v : Piles) (a b : ℕ) (r : Result Reading Refusal) → r ≡ busiest_answer v a b → Step v (busiest a b) (reading_reply r) v
