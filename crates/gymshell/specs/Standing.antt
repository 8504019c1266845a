-- What a warehouse that stands, plain or indexed, is, and what its calls do: what the library's calls do.
--   plain_of     the warehouse of its first pile, and second_of its second pile's store, if it has one
--   IsClosed     what becomes of the second pile when it is closed
--   Does         from a standing warehouse to another of the same kind: of a plain one what is said of the two views, of an
--                indexed one that it is the step of a call with this answer
--   busiest_of   what the question for the busiest minute answers; none without an index
use Rattle.std.specs.Prelude.{ℕ, Some, None, Option, Result}
use Rattle.store.specs.Meaning.{Meaning}
use Rattle.store.specs.Writing.{Settling}
use Rattle.warehouse.specs.declared.fault.Refusal.{Refusal}
use Rattle.warehouse.specs.declared.reading.Reading.{Reading}
use Rattle.warehouse.specs.declared.record.Warehouse.{Warehouse}
use Rattle.warehouse.specs.View.{View, known}
use Rattle.agreement.specs.Call.{Call, Answer}
use Rattle.indexed.specs.Busiest.{busiest_answer}
use Rattle.indexed.specs.Known as both
use Rattle.indexed.specs.Step as steps
use Rattle.gymshell.specs.declared.standing.Standing.{Standing}
use Rattle.gymshell.specs.declared.standing.Standing.TheVariants.{Plain, Indexed}

abbrev pub plain_of : {S : Type 0} → Standing S → Warehouse S
plain_of (Plain w) = w
plain_of (Indexed w) = w.first

-- its second pile's store, where it has one
abbrev pub second_of : {S : Type 0} → Standing S → Option S
second_of (Plain w) = None
second_of (Indexed w) = Some w.index.store

-- a second pile comes back settled, where there was one
abbrev pub IsClosed : {S : Type 0} → Settling S → Option S → Option S → Type 0
IsClosed settled (Some s) (Some t) = settled s t
IsClosed settled None None = Unit {0}
IsClosed settled _ _ = ⊥

abbrev pub Does : {S : Type 0} → (S → Meaning) → Standing S → (View → View → Type 0) → Call → Answer → Standing S → Type 0
Does means (Plain w) alone call answer (Plain w') = alone (known means w) (known means w')
Does means (Indexed w) alone call answer (Indexed w') = steps.Step (both.known means means w) (steps.plain call) answer (both.known means means w')
Does means (Plain w) alone call answer (Indexed w') = ⊥
Does means (Indexed w) alone call answer (Plain w') = ⊥

abbrev pub busiest_of : {S : Type 0} → (S → Meaning) → Standing S → ℕ → ℕ → Option (Result Reading Refusal)
busiest_of means (Plain w) from to = None
busiest_of means (Indexed w) from to = Some (busiest_answer (both.known means means w) from to)
