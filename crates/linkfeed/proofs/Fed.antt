-- A run from a link, in the words of what the link gives.
use Rattle.std.proofs.Common.{◌≡◌, ℕ, ◌^◌, ◌≤◌, List, ◌++◌, length, ℤ, Ok, Err, Result, arith, length-append}
use Rattle.store.specs.declared.interface.Store as store
use Rattle.console.specs.declared.ends.Source as source
use Rattle.console.specs.declared.ends.Sink as sink
use Rattle.console.specs.declared.fault.RunFault.{RunFault}
use Rattle.console.specs.declared.fault.RunFault.TheVariants.{Founding, Input, Output, Long}
use Rattle.console.specs.Running.{Ran, LongFeed}
use Rattle.linkfeed.specs.Feeding.{Feeds}

module _ {S I E O D : Type 0} (kind : store.Ghosts S) (s : S) (n : ℕ) (zs : List ℤ) (from : source.Ghosts I E) (i i' : I) (answers : from.broken i' → ⊥) (some : (rest : List ℕ) × from.gives i' rest) (to : sink.Ghosts O D) (k k' : O) (t : S) (zs' : List ℤ) where
  longer : LongFeed (from.gives i) (from.gives i') → (bytes : List ℕ) × from.gives i bytes × (2 ^ 64 ≤ length bytes)
  longer long = (long.bytes ++ some.0, long.given some.0 some.1, omega (arith, long.many, length-append long.bytes some.0))

  pub feeds : (r : Result Unit (RunFault E D)) → Ran kind s n zs from i i' to k k' r t zs' → Feeds kind s n zs (from.gives i) (i' ≡ i) to k k' r t zs'
  feeds (Ok _) ran = ran
  feeds (Err (Input e)) ran = answers ran.0
  feeds (Err (Output e)) ran = ran
  feeds (Err Long) ran = (longer ran.0, ran.1)
  feeds (Err (Founding e)) ran = ran
