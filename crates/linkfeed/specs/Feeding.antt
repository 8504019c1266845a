-- What feeding a warehouse from a link comes to.
--   gives         the bytes that the link may still hand on
--   to            a kind of sink: the sink was k and is k'
--   Feeds         the answer of feeding, or why it did not come to its end, and the store afterwards: it was s and is t
use Rattle.std.specs.Prelude.{◌≡◌, ℕ, ◌^◌, ◌≤◌, List, length, ℤ, Ok, Err, Result}
use Rattle.store.specs.declared.interface.Store as store
use Rattle.warehouse.specs.Founding.{Surveys}
use Rattle.console.specs.declared.ends.Sink as sink
use Rattle.console.specs.declared.fault.RunFault.{RunFault}
use Rattle.console.specs.declared.fault.RunFault.TheVariants.{Founding, Input, Output, Long}
use Rattle.console.specs.Running.{WholeRun, HalfRun}

-- the law of a feed, for a link, which always answers; `unpolled` is that it was left as it was
abbrev pub Feeds : {S E O D : Type 0} → store.Ghosts S → S → ℕ → List ℤ → (List ℕ → Type 0) → Type 0 → sink.Ghosts O D → O → O → Result Unit (RunFault E D) → S → List ℤ → Type 0
Feeds kind s n zs gives unpolled to k k' (Ok _) t zs' =
    WholeRun kind s n zs gives (to.took k) (to.took k') t zs' × to.handed k'
Feeds kind s n zs gives unpolled to k k' (Err (Input e)) t zs' = ⊥
Feeds kind s n zs gives unpolled to k k' (Err (Output e)) t zs' = to.stuck k' × HalfRun kind s n zs gives t zs'
Feeds kind s n zs gives unpolled to k k' (Err Long) t zs' =
    ((bytes : List ℕ) × gives bytes × (2 ^ 64 ≤ length bytes)) × HalfRun kind s n zs gives t zs'
Feeds kind s n zs gives unpolled to k k' (Err (Founding e)) t zs' =
    Surveys (kind.means s) n (Err e) × (t ≡ s) × unpolled × (k' ≡ k) × (zs' ≡ zs)
