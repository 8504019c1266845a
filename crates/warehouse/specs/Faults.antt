-- The numbers of a warehouse's refusals, and a fault with what was asked for.
--   fault_number   the number of the rules
--   refused        an answer, where a fault comes with what was asked for
--   fault_alone    an answer without what its refusal repeats
--   Repeats        a refusal repeats what was asked for
use Rattle.std.specs.Prelude.{◌≡◌, ℕ, Ok, Err, Result}
use Rattle.store.specs.Faults.{cell_fault_number}
use Rattle.warehouse.specs.declared.fault.Asked.{Asked}
use Rattle.warehouse.specs.declared.fault.Fault.{Fault}
use Rattle.warehouse.specs.declared.fault.Refusal.{Refusal}
use Rattle.warehouse.specs.declared.fault.Fault.TheVariants.{Cell, Level, Value, Buffer, Range, Interval, Size, Domain, Large, Full, Top, Short, Over, Torn, Dirty, Fine}

abbrev pub fault_number : Fault → ℕ
fault_number (Cell f) = cell_fault_number f
fault_number Level = 13
fault_number (Value i) = 14
fault_number Buffer = 15
fault_number Range = 16
fault_number Interval = 17
fault_number Size = 18
fault_number Domain = 21
fault_number (Large c) = 22
fault_number Full = 23
fault_number Top = 24
fault_number Short = 25
fault_number Over = 26
fault_number (Torn c) = 27
fault_number (Dirty c) = 28
fault_number (Fine c) = 29

-- a fault with what was asked for
abbrev pub refused : {X : Type 0} → Asked → Result X Fault → Result X Refusal
refused asked (Ok x) = Ok x
refused asked (Err f) = Err (record { fault = f; asked = asked })

-- an answer without what its refusal repeats
abbrev pub fault_alone : {X : Type 0} → Result X Refusal → Result X Fault
fault_alone (Ok x) = Ok x
fault_alone (Err e) = Err e.fault

-- a refusal repeats what was asked for
abbrev pub Repeats : {X : Type 0} → Result X Refusal → Asked → Type 0
Repeats (Ok x) asked = Unit {0}
Repeats (Err e) asked = e.asked ≡ asked
