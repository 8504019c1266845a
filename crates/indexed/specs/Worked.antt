-- A worked example: calls and answers on two empty stores of 2 bands and room 64.
--   gym            the founding, at size 2
--   worked         the history; worked_1 to worked_7 are its beginnings
--   WorkedHolds    it can happen just so, and whatever piles it leads to have 7 in index cell 0 and no other nonzero index cell
use Rattle.std.specs.Prelude.{◌≡◌, ℕ, ◌<◌, true, cond, [], ◌∷◌, pos, negsuc, ◌==◌}
use Rattle.haar.specs.Tiles.{cell_count}
use Rattle.store.specs.Meaning.{Meaning}
use Rattle.warehouse.specs.declared.fault.Asked.TheVariants.{Minutes}
use Rattle.warehouse.specs.declared.fault.Fault.TheVariants.{Range}
use Rattle.agreement.specs.Call.{load, add, grow, wrote, grown, gave, refused}
use Rattle.indexed.specs.Piles.{Piles}
use Rattle.indexed.specs.Step.{plain, busiest}
use Rattle.indexed.specs.History.{founding, History, new, more, Leads}

abbrev pub blank : Meaning
blank = record { bands = 2; cells = λ _. pos 0; room = pos 64; clean = true }

abbrev pub gym : Piles
gym = record { first = record { size = 2; mark = 0; store = blank }; index = blank }

-- four minutes below zero, the largest is -1; then eight, of which four are 0
abbrev pub worked_1 : History
worked_1 = more new (plain (load 2 0 4 (negsuc 2 ∷ negsuc 0 ∷ negsuc 1 ∷ negsuc 4 ∷ []))) (wrote 4)

abbrev pub worked_2 : History
worked_2 = more worked_1 (busiest 0 4) (gave (negsuc 0) 1)

abbrev pub worked_3 : History
worked_3 = more worked_2 (plain grow) (grown 3)

abbrev pub worked_4 : History
worked_4 = more worked_3 (busiest 0 8) (gave (pos 0) 1)

abbrev pub worked_5 : History
worked_5 = more worked_4 (busiest 0 4) (gave (negsuc 0) 16)

abbrev pub worked_6 : History
worked_6 = more worked_5 (plain (add 5 (pos 7))) (wrote 4)

abbrev pub worked_7 : History
worked_7 = more worked_6 (busiest 0 8) (gave (pos 7) 1)

abbrev pub worked : History
worked = more worked_7 (busiest 3 3) (refused (record { fault = Range; asked = Minutes 3 3 }))

abbrev pub WorkedHolds : Type 0
WorkedHolds =
    ((v : Piles) × Leads (founding gym) worked v)
    × ((v : Piles) → Leads (founding gym) worked v → (c : ℕ) → c < cell_count 2 → v.index.cells c ≡ cond (c == 0) (pos 7) (pos 0))
