-- What calls make of a store in full, also in what it is not known by; and a run of writes.
--   Putting S, Settling S   what a number written to a cell, and what settling, makes of a store: the types of a store's `puts` and `settled`
--   entry c v               the write of v to cell c
--   Rising ws               the cells of the writes ws rise
--   Written puts ws s t     the writes ws, one after another, lead from the store s to the store t
use Rattle.std.specs.Prelude.{◌≡◌, ℕ, ◌<◌, List, [], ◌∷◌, ℤ}
use Rattle.std.specs.List.{All}
use Rattle.store.specs.declared.entry.Entry.{Entry}

abbrev pub Putting : Type 0 → Type 1
Putting S = S → ℕ → ℤ → S → Type 0

abbrev pub Settling : Type 0 → Type 1
Settling S = S → S → Type 0

abbrev pub entry : ℕ → ℤ → Entry
entry c v = record { cell = c; value = v }

abbrev pub Rising : List Entry → Type 0
Rising [] = Unit {0}
Rising (w ∷ ws) = All (λ v. w.cell < v.cell) ws × Rising ws

abbrev pub Written : {S : Type 0} → Putting S → List Entry → S → S → Type 0
Written puts [] s t = t ≡ s
Written {S} puts (w ∷ ws) s t = (u : S) × puts s w.cell w.value u × Written puts ws u t
