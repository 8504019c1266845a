-- What a command makes of a warehouse in full, also of what its store is not known by: a finish, a point addition and a growth do
-- to it what these calls do; every other command, and bytes that no command can be read from, leave it as it was.
--   LoadedTo          a finish, with the load that is open, if any
--   ObeyedTo          one command, already decoded, by what it replied
--   SteppedTo         one command, from the bytes that begin with it
use Rattle.std.specs.Prelude.{◌≡◌, ℕ, List, [], ◌∷◌, ℤ, Some, None, Ok, Err, Option, Result}
use Rattle.store.specs.Meaning.{Meaning}
use Rattle.store.specs.Writing.{Putting}
use Rattle.warehouse.specs.declared.fault.Refusal.{Refusal}
use Rattle.warehouse.specs.declared.record.Warehouse.{Warehouse}
use Rattle.loads.specs.declared.open.OpenLoad.{OpenLoad}
use Rattle.loads.specs.declared.open.RefusedLoad.{RefusedLoad}
use Rattle.loads.specs.Growing.{GrownTo}
use Rattle.loads.specs.Opening.{FinishedTo}
use Rattle.loads.specs.Writes.{AddedTo}
use Rattle.wire.specs.declared.command.Command.{Command}
use Rattle.wire.specs.declared.command.Command.TheVariants.{Grow, Begin, Value, Finish, GiveUp, Add, Point, Sum, Mean}
use Rattle.wire.specs.declared.command.DecodeFault.{DecodeFault}
use Rattle.wire.specs.declared.line.Line.TheVariants as line
use Rattle.wire.specs.Decode.{decoded}
use Rattle.feed.specs.Step.{Reply, told, counted}

abbrev pub LoadedTo : {S : Type 0} → (S → Meaning) → Putting S → Warehouse S → Option OpenLoad → List ℤ → ℕ → Reply → Warehouse S → Type 0
LoadedTo means puts w None zs o r w' = w' ≡ w
LoadedTo means puts w (Some l) zs o r w' = (q : Result ℕ RefusedLoad) × (r ≡ counted o q) × FinishedTo means puts l w zs q w'

abbrev pub ObeyedTo : {S : Type 0} → (S → Meaning) → Putting S → Warehouse S → Option OpenLoad → List ℤ → Command → ℕ → Reply → Warehouse S → Type 0
ObeyedTo means puts w l zs (Begin m p) o r w' = w' ≡ w
ObeyedTo means puts w l zs (Value x) o r w' = w' ≡ w
ObeyedTo means puts w l zs Finish o r w' = LoadedTo means puts w l zs o r w'
ObeyedTo means puts w l zs GiveUp o r w' = w' ≡ w
ObeyedTo means puts w l zs (Add i x) o r w' = (q : Result ℕ Refusal) × (r ≡ told line.Added o q) × AddedTo means puts w 0 i (x ∷ []) q w'
ObeyedTo means puts w l zs (Point i) o r w' = w' ≡ w
ObeyedTo means puts w l zs (Sum a b) o r w' = w' ≡ w
ObeyedTo means puts w l zs (Mean a b) o r w' = w' ≡ w
ObeyedTo means puts w l zs Grow o r w' = (q : Result ℕ Refusal) × (r ≡ told line.Grown o q) × GrownTo means puts w q w'

abbrev pub SteppedBy : {S : Type 0} → Result (Command × List ℕ) DecodeFault → (S → Meaning) → Putting S → Warehouse S → Option OpenLoad → List ℤ → ℕ → Reply → Warehouse S → Type 0
SteppedBy (Err f) means puts w l zs o r w' = w' ≡ w
SteppedBy (Ok (c, rest)) means puts w l zs o r w' = ObeyedTo means puts w l zs c o r w'

abbrev pub SteppedTo : {S : Type 0} → (S → Meaning) → Putting S → Warehouse S → Option OpenLoad → List ℤ → List ℕ → ℕ → Reply → Warehouse S → Type 0
SteppedTo means puts w l zs bs o r w' = SteppedBy (decoded bs) means puts w l zs o r w'
