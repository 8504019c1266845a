-- How a call shows that it made a step.
use Rattle.std.proofs.Common.{◌≡◌, ℕ, Some, None, Option, Result, sym, refl, ap, subst}
use Rattle.haar.specs.declared.trend.Trend.{Trend}
use Rattle.store.specs.Meaning.{Settles}
use Rattle.warehouse.specs.declared.fault.Fault.{Fault}
use Rattle.warehouse.specs.declared.fault.Refusal.{Refusal}
use Rattle.warehouse.specs.declared.reading.Reading.{Reading}
use Rattle.warehouse.specs.Ask.{point_answer, sum_answer, mean_answer}
use Rattle.warehouse.specs.Grading.{trend_answer}
use Rattle.warehouse.specs.View.{View}
use Rattle.agreement.specs.Call.{Call, settle, point, sum, mean, trend, Answer, settled}
use Rattle.agreement.specs.Check.{refusal}
use Rattle.agreement.specs.Reply.{reading_reply, trend_reply, reply}
use Rattle.agreement.specs.Step.{Unchanged, Changes, ChangesBy, Step}

pub unchanged : (v : View) → Unchanged v v
unchanged v = record { kept = record { size = refl; mark = refl; store = record { bands = refl; cells = λ _ _. refl; room = refl } }; clean = refl }

-- what is not changed is not changed whether or not the call was refused
asks : (o : Option Fault) (v : View) (call : Call) → Changes v call v → ChangesBy o v call v
asks None v call s = s
asks (Some f) v call s = unchanged v

module _ (v : View) where
  pub point_step : (i : ℕ) (r : Result Reading Refusal) → r ≡ point_answer v i → Step v (point i) (reading_reply r) v
  point_step i r e = record { answers = ap reading_reply e; changes = asks (refusal v (point i)) v (point i) (unchanged v) }

  pub sum_step : (a b : ℕ) (r : Result Reading Refusal) → r ≡ sum_answer v a b → Step v (sum a b) (reading_reply r) v
  sum_step a b r e = record { answers = ap reading_reply e; changes = asks (refusal v (sum a b)) v (sum a b) (unchanged v) }

  pub mean_step : (a b : ℕ) (r : Result Reading Refusal) → r ≡ mean_answer v a b → Step v (mean a b) (reading_reply r) v
  mean_step a b r e = record { answers = ap reading_reply e; changes = asks (refusal v (mean a b)) v (mean a b) (unchanged v) }

  pub trend_step : (j k : ℕ) (r : Result Trend Refusal) → r ≡ trend_answer v j k → Step v (trend j k) (trend_reply r) v
  trend_step j k r e = record { answers = ap trend_reply e; changes = asks (refusal v (trend j k)) v (trend j k) (unchanged v) }

  pub settle_step : (w : View) → w.size ≡ v.size → w.mark ≡ v.mark → Settles v.store w.store → Step v settle settled w
  unfolding refusal
  settle_step w e q s = record { answers = refl; changes = record { size = e; mark = q; store = s } }

  -- an accepted call, and a refused one
  pub accepted : (call : Call) (a : Answer) (w : View) → refusal v call ≡ None → a ≡ reply v call → Changes v call w → Step v call a w
  accepted call a w e q d = record { answers = q; changes = subst (λ o. ChangesBy o v call w) (sym e) d }

  pub turned_down : (call : Call) (a : Answer) (w : View) (f : Fault) → refusal v call ≡ Some f → a ≡ reply v call → Unchanged v w → Step v call a w
  turned_down call a w f e q s = record { answers = q; changes = subst (λ o. ChangesBy o v call w) (sym e) s }
