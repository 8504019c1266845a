-- The checks of each call, in their order, on any view.
--   check, first         one check, and the first of several that finds a fault
--   lowest               the lowest number below a bound that passes a test
--   Write                a cell to write, with its new number
--   load_writes          the cells that a load writes, and growth_writes those that growth writes
--   lowest_barred        the lowest cell to write that the store refuses, or that would pass the limit
--   newly                how many cells to write go from zero to nonzero
--   chunk_checks         the checks of a chunk's values, once they are all there
--   refusal              the fault with which a call is refused, if any
use Rattle.std.specs.Prelude.{ℕ, zero, suc, ◌+◌, ◌-◌, ◌*◌, ◌/◌, ◌%◌, ◌^◌, min, Bool, true, false, cond, not, ◌&&◌, List, [], ◌∷◌, map, length, ℤ, pos, negsuc, ◌+ℤ◌, Some, None, Ok, Err, Option, Result, ◌==◌, int_lt, nat_le, nat_lt, slice_index_or, unsigned_abs}
use Rattle.haar.specs.declared.coefficient.Coefficient.TheVariants.{TileSum, Difference}
use Rattle.haar.specs.Tiles.{cell_number}
use Rattle.haar.specs.Count.{bands_in_use, touched_coefficients}
use Rattle.store.specs.Meaning.{weight}
use Rattle.warehouse.specs.declared.fault.Fault.{Fault}
use Rattle.warehouse.specs.declared.fault.Fault.TheVariants.{Value, Buffer, Domain, Large, Full, Top, Short}
use Rattle.warehouse.specs.declared.fault.Refusal.{Refusal}
use Rattle.warehouse.specs.Ask.{point_answer, sum_answer, mean_answer}
use Rattle.warehouse.specs.Grading.{inside, trend_answer}
use Rattle.warehouse.specs.Read.{look, limit}
use Rattle.warehouse.specs.View.{View}
use Rattle.agreement.specs.Call.{Call, load, add, grow, settle, point, sum, mean, trend}
use Rattle.agreement.specs.Share.{chunk_values, share}

abbrev pub check : Bool → Fault → Option Fault
check true f = Some f
check false f = None

abbrev pub or : Option Fault → Option Fault → Option Fault
or None next = next
or (Some f) next = Some f

abbrev pub first : List (Option Fault) → Option Fault
first [] = None
first (o ∷ rest) = or o (first rest)

abbrev pub or_this : Option ℕ → Bool → ℕ → Option ℕ
or_this (Some c) here b = Some c
or_this None true b = Some b
or_this None false b = None

abbrev pub lowest : (ℕ → Bool) → ℕ → Option ℕ
lowest test zero = None
lowest test (suc b) = or_this (lowest test b) (test b) b

-- a fault at that number
abbrev pub at : (ℕ → Fault) → Option ℕ → Option Fault
at fault None = None
at fault (Some c) = Some (fault c)

-- a value lies outside -2^31 .. 2^31 - 1
abbrev pub wide : ℤ → Bool
wide (pos n) = nat_le (2 ^ 31) n
wide (negsuc n) = nat_le (2 ^ 31) n

pub data Write : Type 0 where
  put : ℕ → ℤ → Write  -- cell, new number

-- what a cell holds, as far as it can be read
abbrev pub held : Result ℤ Fault → ℤ
held (Ok v) = v
held (Err f) = pos 0

abbrev pub load_writes : ℕ → ℕ → (ℕ → Result ℤ Fault) → ℕ → ℕ → List ℤ → List Write
load_writes T n look m p values =
    map (λ s. put (cell_number T s) (held (look (cell_number T s)) +ℤ share m p values s)) (touched_coefficients n m p)

-- the cell of the total: slot 0 of tile (t,0), t the highest band in use
abbrev pub total_cell : ℕ → ℕ → ℕ
total_cell T n = cell_number T (TileSum (bands_in_use n - 1) 0)

abbrev pub total : ℕ → ℕ → (ℕ → Result ℤ Fault) → ℤ
total T n look = held (look (total_cell T n))

-- n is a positive multiple of 4, so that growth puts a band in use
abbrev pub fills : ℕ → Bool
fills n = nat_lt 0 n && n % 4 == 0

abbrev pub growth_writes : ℕ → ℕ → (ℕ → Result ℤ Fault) → List Write
growth_writes T n look =
    put (cell_number T (Difference (suc n) 0)) (total T n look) ∷ cond (fills n) (put (cell_number T (TileSum (n / 4) 0)) (total T n look) ∷ []) []

abbrev pub barred : Result ℤ Fault → ℤ → Bool
barred (Ok _) v = nat_lt limit (unsigned_abs v)
barred (Err f) v = true

abbrev pub lesser : ℕ → Option ℕ → ℕ
lesser c None = c
lesser c (Some d) = min c d

abbrev pub lowest_barred : (ℕ → Result ℤ Fault) → List Write → Option ℕ
lowest_barred look [] = None
lowest_barred look (put c v ∷ rest) = cond (barred (look c) v) (Some (lesser c (lowest_barred look rest))) (lowest_barred look rest)

-- the fault of a barred cell
abbrev pub bar : Result ℤ Fault → ℕ → Fault
bar (Ok _) c = Large c
bar (Err f) c = f

abbrev pub newly : (ℕ → Result ℤ Fault) → List Write → ℕ
newly look [] = 0
newly look (put c v ∷ rest) = (weight v - weight (held (look c))) + newly look rest

-- the cells to write, then the room for them
abbrev pub write_checks : ℤ → (ℕ → Result ℤ Fault) → List Write → List (Option Fault)
write_checks room look writes =
    at (λ c. bar (look c) c) (lowest_barred look writes)
    ∷ check (int_lt room (pos (newly look writes))) Full
    ∷ []

abbrev pub chunk_checks : ℕ → ℕ → ℤ → (ℕ → Result ℤ Fault) → ℕ → ℕ → List ℤ → List (Option Fault)
chunk_checks n T room look m p values =
    check (not (inside n m p)) Domain
    ∷ at Value (lowest (λ i. wide (slice_index_or values i (pos 0))) (2 ^ m))
    ∷ write_checks room look (load_writes T n look m p values)

abbrev pub load_checks : ℕ → ℕ → ℤ → (ℕ → Result ℤ Fault) → ℕ → ℕ → ℕ → List ℤ → List (Option Fault)
load_checks n T room look m p taken buffer =
    check (nat_lt taken (2 ^ m)) Short
    ∷ check (nat_lt (length buffer) (2 ^ m)) Buffer
    ∷ chunk_checks n T room look m p (chunk_values m buffer)

abbrev pub growth_checks : ℕ → ℕ → ℤ → (ℕ → Result ℤ Fault) → List (Option Fault)
growth_checks n T room look = check (nat_le (4 * T) n) Top ∷ write_checks room look (growth_writes T n look)

-- the fault of a question's answer: its checks stand in the answer
abbrev pub fault_in : {X : Type 0} → Result X Refusal → Option Fault
fault_in (Ok _) = None
fault_in (Err r) = Some r.fault

unfoldable pub refusal : View → Call → Option Fault
refusal v (load m p taken buffer) = first (load_checks v.size v.store.bands v.store.room (look v.store) m p taken buffer)
refusal v (add i x) = first (chunk_checks v.size v.store.bands v.store.room (look v.store) 0 i (x ∷ []))
refusal v grow = first (growth_checks v.size v.store.bands v.store.room (look v.store))
refusal v settle = None
refusal v (point i) = fault_in (point_answer v i)
refusal v (sum a b) = fault_in (sum_answer v a b)
refusal v (mean a b) = fault_in (mean_answer v a b)
refusal v (trend j k) = fault_in (trend_answer v j k)
