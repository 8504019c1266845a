-- The calls of an open load.
--   IsOpen r m p k     the answer is a load of level m and index p with k values taken
--   HandedBack l f r   the answer is the load l again, with the fault f
--   Begins, Takes, Finishes   what the calls answer, and what they leave
--   FinishedTo         what a finish makes of a warehouse in full
use Rattle.std.specs.Prelude.{◌≡◌, ℕ, ◌+◌, ◌^◌, ◌<◌, ◌≤◌, List, length, take, ℤ, Ok, Err, Result, slice_set}
use Rattle.warehouse.specs.declared.fault.Asked.TheVariants.{Interval}
use Rattle.warehouse.specs.declared.fault.Fault.{Fault}
use Rattle.warehouse.specs.declared.fault.Fault.TheVariants.{Level, Buffer, Domain, Short, Over}
use Rattle.warehouse.specs.declared.fault.Refusal.{Refusal}
use Rattle.store.specs.Meaning.{Meaning}
use Rattle.store.specs.Writing.{Putting}
use Rattle.warehouse.specs.declared.record.Warehouse.{Warehouse}
use Rattle.warehouse.specs.View.{View}
use Rattle.loads.specs.declared.open.OpenLoad.{OpenLoad}
use Rattle.loads.specs.declared.open.RefusedLoad.{RefusedLoad}
use Rattle.loads.specs.Addition.{Lies, Additions}
use Rattle.loads.specs.Writes.{AddedTo}

-- a load of level m and index p with k values taken
pub record Open (l : OpenLoad) (m p k : ℕ) : Type 0 where
  pub level : l.level ≡ m
  pub index : l.index ≡ p
  pub taken : l.taken ≡ k

abbrev pub IsOpen : {E : Type 0} → Result OpenLoad E → ℕ → ℕ → ℕ → Type 0
IsOpen (Ok l) m p k = Open l m p k
IsOpen (Err e) m p k = ⊥

-- a refusal of a load repeats its level and index
abbrev pub refusing : Fault → ℕ → ℕ → Refusal
refusing f m p = record { fault = f; asked = Interval m p }

pub record Returned (l : OpenLoad) (f : Fault) (e : RefusedLoad) : Type 0 where
  pub load : e.load ≡ l
  pub refusal : e.refusal ≡ refusing f l.level l.index

abbrev pub HandedBack : {X : Type 0} → OpenLoad → Fault → Result X RefusedLoad → Type 0
HandedBack l f (Ok x) = ⊥
HandedBack l f (Err e) = Returned l f e

-- beginning a load of level m and index p at size n
pub record Begins (n m p : ℕ) (r : Result OpenLoad Refusal) : Type 0 where
  pub level : 12 < m → r ≡ Err (refusing Level m p)
  pub domain : m ≤ 12 → (Lies n m p → ⊥) → r ≡ Err (refusing Domain m p)
  pub begun : m ≤ 12 → Lies n m p → IsOpen r m p 0

-- giving the value x to the load l
pub record Takes (l : OpenLoad) (x : ℤ) (before : List ℤ) (r : Result OpenLoad RefusedLoad) (after : List ℤ) : Type 0 where
  pub over : 2 ^ l.level ≤ l.taken → HandedBack l Over r × (after ≡ before)
  pub buffer : l.taken < 2 ^ l.level → length before ≤ l.taken → HandedBack l Buffer r × (after ≡ before)
  pub taken : l.taken < 2 ^ l.level → l.taken < length before → IsOpen r l.level l.index (l.taken + 1) × (after ≡ slice_set before l.taken x)

-- finishing, by the load's numbers alone
pub record Finished (v : View) (m p taken : ℕ) (zs : List ℤ) (r : Result ℕ Fault) (v' : View) : Type 0 where
  pub short : taken < 2 ^ m → (r ≡ Err Short) × (v' ≡ v)
  pub buffer : 2 ^ m ≤ taken → length zs < 2 ^ m → (r ≡ Err Buffer) × (v' ≡ v)
  pub added : 2 ^ m ≤ taken → 2 ^ m ≤ length zs → Additions v m p (take (2 ^ m) zs) r v'

-- a finish hands the load back with its fault, or answers the count
abbrev pub Finishes : OpenLoad → View → List ℤ → Result ℕ RefusedLoad → View → Type 0
Finishes l v zs (Ok w) v' = Finished v l.level l.index l.taken zs (Ok w) v'
Finishes l v zs (Err e) v' = Returned l e.refusal.fault e × Finished v l.level l.index l.taken zs (Err e.refusal.fault) v'

-- a finish in full
abbrev pub FinishedTo : {S E : Type 0} → (S → Meaning) → Putting S → OpenLoad → Warehouse S → List ℤ → Result ℕ E → Warehouse S → Type 0
FinishedTo means puts l w zs r w' = AddedTo means puts w l.level l.index (take (2 ^ l.level) zs) r w'
