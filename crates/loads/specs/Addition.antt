-- Adding the values zs of the chunk of level m and index p to a warehouse.
--   Lies          the chunk is inside the size
--   Limit z       a value within its limits
--   Refuses       why a fault is the answer: it is the first in the order of checks
--   Additions     what the call answers, and the view after it
use Rattle.std.specs.Prelude.{◌≡◌, ℕ, ◌-◌, ◌^◌, ◌<◌, ◌≤◌, max, List, [], ◌∷◌, ℤ, pos, neg_ℤ, ◌≤ℤ◌, ◌<ℤ◌, Ok, Err, Result, slice_index_or}
use Rattle.store.specs.declared.fault.CellFault.TheVariants as cell
use Rattle.warehouse.specs.declared.fault.Fault.{Fault}
use Rattle.warehouse.specs.declared.fault.Fault.TheVariants.{Cell, Level, Value, Buffer, Range, Interval, Size, Domain, Large, Full, Top, Short, Over, Torn, Dirty, Fine}
use Rattle.warehouse.specs.declared.fault.Asked.TheVariants.{Minute}
use Rattle.warehouse.specs.declared.fault.Refusal.{Refusal}
use Rattle.warehouse.specs.Faults.{fault_alone, Repeats}
use Rattle.warehouse.specs.View.{View, end_of}
use Rattle.loads.specs.Share.{minutes}
use Rattle.loads.specs.Adds.{Crowded, Took}
use Rattle.loads.specs.Loads as loads

pub record Lies (n m p : ℕ) : Type 0 where
  pub low : m ≤ n
  pub inside : p < 2 ^ (n - m)

abbrev pub Limit : ℤ → Type 0
Limit z = (neg_ℤ (pos (2 ^ 31)) ≤ℤ z) × (z <ℤ pos (2 ^ 31))

-- the values below place i are within their limits
abbrev pub Limited : ℕ → List ℤ → Type 0
Limited i zs = (k : ℕ) → k < i → Limit (slice_index_or zs k (pos 0))

-- the checks before those of the cells are passed
pub record Sound (v : View) (m p : ℕ) (zs : List ℤ) : Type 0 where
  pub lies : Lies v.size m p
  pub limited : Limited (2 ^ m) zs

abbrev pub Refuses : View → ℕ → ℕ → List ℤ → Fault → Type 0
Refuses v m p zs Domain = Lies v.size m p → ⊥
Refuses v m p zs (Value i) = Lies v.size m p × (i < 2 ^ m) × (Limit (slice_index_or zs i (pos 0)) → ⊥) × Limited i zs
-- a store without bands refuses the first cell of all
Refuses v m p zs (Cell f) = Sound v m p zs × (v.store.bands ≡ 0) × (f ≡ cell.Cell 0)
Refuses v m p zs (Large c) = Sound v m p zs × (1 ≤ v.store.bands) × loads.Large v.store.bands v.size m p (minutes m p zs) v.store.cells c
Refuses v m p zs Full = Sound v m p zs × (1 ≤ v.store.bands) × Crowded v.store.bands v.size m p (minutes m p zs) v.store
Refuses v m p zs Level = ⊥
Refuses v m p zs Buffer = ⊥
Refuses v m p zs Range = ⊥
Refuses v m p zs Interval = ⊥
Refuses v m p zs Size = ⊥
Refuses v m p zs Top = ⊥
Refuses v m p zs Short = ⊥
Refuses v m p zs Over = ⊥
Refuses v m p zs (Torn c) = ⊥
Refuses v m p zs (Dirty c) = ⊥
Refuses v m p zs (Fine c) = ⊥

pub record Accepts (v : View) (m p : ℕ) (zs : List ℤ) (w : ℕ) (v' : View) : Type 0 where
  pub sound : Sound v m p zs
  pub some : 1 ≤ v.store.bands
  pub took : Took v.store.bands v.size m p (minutes m p zs) v.store w v'.store
  pub size : v'.size ≡ v.size
  pub mark : v'.mark ≡ max v.mark (end_of m p)

abbrev pub Additions : View → ℕ → ℕ → List ℤ → Result ℕ Fault → View → Type 0
Additions v m p zs (Ok w) v' = Accepts v m p zs w v'
Additions v m p zs (Err e) v' = Refuses v m p zs e × (v' ≡ v)

-- a point addition: a chunk of level 0, whose refusal repeats the minute
pub record AddsPoint (v : View) (i : ℕ) (x : ℤ) (r : Result ℕ Refusal) (v' : View) : Type 0 where
  pub added : Additions v 0 i (x ∷ []) (fault_alone r) v'
  pub asked : Repeats r (Minute i)
