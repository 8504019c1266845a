-- What a session over a captured line comes to: the link waits, begins, feeds a warehouse, and ends.
--   Outcome             what is shown on the way, and what the buffer then holds
--   served .. bs        the outcome where the ready byte came first and bs came after it, on a store with such bands and room
--   greeted .. bs       the outcome where the line has captured bs; greeted_on, by a store's bands and room
--   Comes               a sink was shown an outcome, and the buffer holds it
--   Says, Hands         some words were shown, or what was held back handed on, or the sink is stuck
--   FeedRun             all the commands of a feed were obeyed: the store was s and is t, which is what they left, closed
--   Half                none of its commands was obeyed, or those of some first bytes, or all
--   Fails               why a session does not come to its end, and how far it came
--   Greeted             the outcome was shown; the store is as its feed left it, closed, or as it was if it was never fed
--   Serves, Greets      the answer of a session from the ready byte on, and from the first poll on
--   Plays               the answer of a whole session
use Rattle.std.specs.Prelude.{◌≡◌, ℕ, ◌^◌, ◌≤◌, ◌⊎◌, List, [], ◌∷◌, ◌++◌, length, ℤ, codes, nat_eq, if◌then◌else◌, Ok, Err, Result}
use Rattle.store.specs.declared.interface.Store as store
use Rattle.warehouse.specs.Founding.{Surveys}
use Rattle.feedlaw.specs.Lines.{feed_told, text}
use Rattle.link.specs.declared.fault.Fault.{Fault}
use Rattle.link.specs.declared.fault.Fault.TheVariants.{NoMotor, Line}
use Rattle.link.specs.Waiting.{ready_byte}
use Rattle.console.specs.declared.ends.Sink as sink
use Rattle.console.specs.declared.fault.RunFault.{RunFault}
use Rattle.console.specs.declared.fault.RunFault.TheVariants.{Founding, Input, Output, Long}
use Rattle.console.specs.Running.{WholeRun, HalfRun}

abbrev pub welcome_line : List ℕ
welcome_line = codes "Welcome\n"

abbrev pub begun_lines : List ℕ
begun_lines = codes "Ready\n" ++ codes "Feeding\n"

abbrev pub refused_line : Fault → List ℕ
refused_line NoMotor = codes "E 32 No motor\n"
refused_line Line = codes "E 33 Line\n"

pub record Outcome : Type 0 where
  pub shown : List ℕ
  pub values : List ℤ

abbrev pub refused : Fault → List ℤ → Outcome
refused fault zs = record { shown = refused_line fault; values = zs }

abbrev pub served : ℕ → ℤ → ℕ → List ℤ → List ℕ → Outcome
served bands room n zs bytes =
    let told = feed_told bands room n zs bytes in
    record { shown = begun_lines ++ text told.lines; values = told.desk.values }

abbrev pub greeted : ℕ → ℤ → ℕ → List ℤ → List ℕ → Outcome
greeted bands room n zs [] = refused NoMotor zs
greeted bands room n zs (b ∷ bytes) = if nat_eq b ready_byte then served bands room n zs bytes else refused Line zs

pub record Comes (K K' : List ℕ → Type 0) (zs' : List ℤ) (outcome : Outcome) : Type 0 where
  pub took : (w : List ℕ) → K w → K' (w ++ outcome.shown)
  pub values : zs' ≡ outcome.values

abbrev pub Says : {I E : Type 0} → (K K' : List ℕ → Type 0) → Type 0 → List ℕ → Result Unit (RunFault I E) → Type 0
Says K K' stuck words (Ok _) = (w : List ℕ) → K w → K' (w ++ words)
Says K K' stuck words (Err (Output e)) = stuck
Says K K' stuck words (Err _) = ⊥

abbrev pub Hands : {I E : Type 0} → (K K' : List ℕ → Type 0) → (handed stuck : Type 0) → Result Unit (RunFault I E) → Type 0
Hands K K' handed stuck (Ok _) = ((w : List ℕ) → K w → K' w) × handed
Hands K K' handed stuck (Err (Output e)) = stuck
Hands K K' handed stuck (Err _) = ⊥

-- whatever a sink took
abbrev pub Any : List ℕ → Type 0
Any w = Unit {0}

abbrev pub FeedRun : {S : Type 0} → store.Ghosts S → S → ℕ → List ℤ → (List ℕ → Type 0) → S → List ℤ → Type 0
FeedRun kind s n zs feeds t zs' = WholeRun kind s n zs feeds Any Any t zs'

-- by the bytes that a feed may have; a store of which no command was obeyed is as it was
abbrev pub Half : {S : Type 0} → store.Ghosts S → S → ℕ → List ℤ → (List ℕ → Type 0) → S → List ℤ → Type 0
Half kind s n zs feeds t zs' =
    ((t ≡ s) × (zs' ≡ zs)) ⊎ (HalfRun kind s n zs feeds t zs' ⊎ FeedRun kind s n zs feeds t zs')

abbrev pub Fails : {S I D : Type 0} → store.Ghosts S → S → ℕ → List ℤ → (List ℕ → Type 0) → Type 0 → RunFault I D → S → List ℤ → Type 0
Fails kind s n zs feeds stuck (Founding e) t zs' =
    ((bytes : List ℕ) × feeds bytes) × Surveys (kind.means s) n (Err e) × (t ≡ s) × (zs' ≡ zs)
Fails kind s n zs feeds stuck (Output e) t zs' = stuck × Half kind s n zs feeds t zs'
Fails kind s n zs feeds stuck Long t zs' =
    ((bytes : List ℕ) × feeds bytes × (2 ^ 64 ≤ length bytes)) × HalfRun kind s n zs feeds t zs'
Fails kind s n zs feeds stuck (Input e) t zs' = ⊥

abbrev pub Serves : {S I O D : Type 0} → store.Ghosts S → S → ℕ → List ℤ → List ℕ → sink.Ghosts O D → O → O → Result Unit (RunFault I D) → S → List ℤ → Type 0
Serves kind s n zs bytes to k k' (Ok _) t zs' =
    FeedRun kind s n zs (λ all. all ≡ bytes) t zs'
    × Comes (to.took k) (to.took k') zs' (served (kind.means s).bands (kind.means s).room n zs bytes)
Serves kind s n zs bytes to k k' (Err e) t zs' = Fails kind s n zs (λ all. all ≡ bytes) (to.stuck k') e t zs'

-- a feed is what was captured behind the ready byte
abbrev pub HasFeed : List ℕ → List ℕ → Type 0
HasFeed captured bytes = captured ≡ ready_byte ∷ bytes

pub record Greeted {S : Type 0} (kind : store.Ghosts S) (s : S) (n : ℕ) (zs : List ℤ) (captured : List ℕ) (K K' : List ℕ → Type 0) (t : S) (zs' : List ℤ) (outcome : Outcome) : Type 0 where
  pub fed : (bytes : List ℕ) → HasFeed captured bytes → FeedRun kind s n zs (HasFeed captured) t zs'
  pub unfed : ((bytes : List ℕ) → HasFeed captured bytes → ⊥) → t ≡ s
  pub comes : Comes K K' zs' outcome

-- the outcome on such a store
abbrev pub greeted_on : {S : Type 0} → store.Ghosts S → S → ℕ → List ℤ → List ℕ → Outcome
greeted_on kind s n zs captured = greeted (kind.means s).bands (kind.means s).room n zs captured

abbrev pub Greets : {S I O D : Type 0} → store.Ghosts S → S → ℕ → List ℤ → List ℕ → sink.Ghosts O D → O → O → Result Unit (RunFault I D) → S → List ℤ → Type 0
Greets kind s n zs captured to k k' (Ok _) t zs' =
    Greeted kind s n zs captured (to.took k) (to.took k') t zs' (greeted_on kind s n zs captured)
Greets kind s n zs captured to k k' (Err e) t zs' = Fails kind s n zs (HasFeed captured) (to.stuck k') e t zs'

-- at its beginning and at its end the link is Welcome
abbrev pub whole : Outcome → Outcome
whole outcome = record outcome { shown = welcome_line ++ (outcome.shown ++ welcome_line) }

abbrev pub Plays : {S I O D : Type 0} → store.Ghosts S → S → ℕ → List ℤ → List ℕ → sink.Ghosts O D → O → O → Result Unit (RunFault I D) → S → List ℤ → Type 0
Plays kind s n zs captured to k k' (Ok _) t zs' =
    Greeted kind s n zs captured (to.took k) (to.took k') t zs' (whole (greeted_on kind s n zs captured)) × to.handed k'
Plays kind s n zs captured to k k' (Err e) t zs' = Fails kind s n zs (HasFeed captured) (to.stuck k') e t zs'
