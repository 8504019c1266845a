-- What holds of an indexed warehouse after any history.
--   Right        a call was answered as the definitions answer it on the recount
--   AllRight     each call of a history was, at its time
--   Sound        all that holds
use Rattle.std.specs.Prelude.{◌≡◌, ℕ, ◌-◌, ◌^◌, ◌<◌, ◌≤◌}
use Rattle.agreement.specs.Call.{Answer, gave, fault_of}
use Rattle.agreement.specs.Agreement as agreement
use Rattle.agreement.specs.History.{capacity}
use Rattle.indexed.specs.Largest.{largest, Indexed}
use Rattle.indexed.specs.Piles.{Piles}
use Rattle.indexed.specs.Busiest.{busiest_cells}
use Rattle.indexed.specs.Step.{IndexedCall, busiest, refusal, reply, Step}
use Rattle.indexed.specs.History.{Beginning, Begins, piles_at, History, new, more, Leads, accepted, tally, recount}

-- so it was refused exactly if the checks of both piles refuse it there
pub record Right (start : Beginning) (before : History) (call : IndexedCall) (answer : Answer) : Type 0 where
  pub refusals : fault_of answer ≡ refusal (recount (piles_at start) (tally start before)) call
  pub answers : answer ≡ reply (recount (piles_at start) (tally start before)) call

abbrev pub AllRight : Beginning → History → Type 0
AllRight start new = Unit {0}
AllRight start (more h call answer) = AllRight start h × Right start h call answer

pub record Sound (start : Beginning) (history : History) (v : Piles) : Type 0 where
  -- the first pile is as a warehouse is after the accepted calls
  pub first : agreement.Sound start.first (accepted history) v.first
  -- each index cell is the largest of its tile's minutes by the tally
  pub bands : v.index.bands ≡ start.index.bands
  pub cells : Indexed v.index.bands v.first.size (tally start history).minutes v.index.cells
  pub room : capacity v.index ≡ capacity start.index
  -- so it can begin anew as it is
  pub again : Begins (record { first = record { view = v.first; minutes = (tally start history).minutes }; index = v.index })
  -- exactly those calls were refused, and will be refused next, that the checks of both piles refuse
  pub past : AllRight start history
  pub able : (call : IndexedCall) → (answer : Answer) × (w : Piles) × Step v call answer w
  pub next : (call : IndexedCall) (answer : Answer) (w : Piles) → Step v call answer w → Right start history call answer
  -- the busiest minute of every range inside the size is answered, and it is the tally's
  pub busiests : (a b : ℕ) → a < b → b ≤ 2 ^ v.first.size → (answer : Answer) (w : Piles) → Step v (busiest a b) answer w → answer ≡ gave (largest (tally start history).minutes a (b - a)) (busiest_cells v.first.size a b)

abbrev pub SoundHolds : Type 0
SoundHolds = (start : Beginning) (history : History) (v : Piles) → Leads start history v → Sound start history v
