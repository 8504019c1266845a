-- What a command does to the warehouse, the open load and the buffer, and what it prints.
--   Reply             a line, or no line, or a refusal with its offset
--   said              what a reply prints
--   Outcome           what is printed of a command, and how many bytes the feed goes on by: none where it ends
--   Obeys             one command, already decoded
--   Steps             one command, from the bytes that begin with it
use Rattle.std.specs.Prelude.{◌≡◌, ℕ, ◌-◌, List, length, ℤ, Some, None, Ok, Err, Option, Result}
use Rattle.warehouse.specs.declared.fault.Refusal.{Refusal}
use Rattle.warehouse.specs.declared.reading.Reading.{Reading}
use Rattle.warehouse.specs.Ask.{point_answer, sum_answer, mean_answer}
use Rattle.warehouse.specs.View.{View}
use Rattle.loads.specs.declared.open.OpenLoad.{OpenLoad}
use Rattle.loads.specs.declared.open.RefusedLoad.{RefusedLoad}
use Rattle.loads.specs.Addition.{AddsPoint}
use Rattle.loads.specs.Growing.{Growth}
use Rattle.loads.specs.Opening.{Begins, Takes, Finishes}
use Rattle.wire.specs.declared.command.Command.{Command}
use Rattle.wire.specs.declared.command.Command.TheVariants.{Grow, Begin, Value, Finish, GiveUp, Add, Point, Sum, Mean}
use Rattle.wire.specs.declared.command.DecodeFault.{DecodeFault}
use Rattle.feed.specs.declared.fault.Cause.{Cause}
use Rattle.feed.specs.declared.fault.Cause.TheVariants.{Decode, Sequence, Warehouse}
use Rattle.feed.specs.declared.fault.FeedFault.{FeedFault}
use Rattle.wire.specs.declared.line.Line.{Line}
use Rattle.wire.specs.declared.line.Line.TheVariants as line
use Rattle.feed.specs.declared.stepped.Stepped.{Stepped}
use Rattle.wire.specs.Decode.{decoded}
use Rattle.feed.specs.Faults.{fault_line}

abbrev pub Reply : Type 0
Reply = Result (Option Line) FeedFault

abbrev pub said : Reply → Option Line
said (Ok l) = l
said (Err f) = Some (fault_line f)

abbrev pub Outcome : Type 0
Outcome = Option Line × Option ℕ

-- the feed goes on: the line of a command, if it prints one, and how many bytes it has
abbrev pub on : Option Line → ℕ → Outcome
on l w = (l, Some w)

abbrev pub refused : Refusal → ℕ → FeedFault
refused e o = record { cause = Warehouse e; offset = o }

abbrev pub undecoded : DecodeFault → ℕ → FeedFault
undecoded f o = record { cause = Decode f; offset = o }

abbrev pub out_of_sequence : ℕ → FeedFault
out_of_sequence o = record { cause = Sequence; offset = o }

-- an answer as its line, or a refusal
abbrev pub told : {X : Type 0} → (X → Line) → ℕ → Result X Refusal → Reply
told say o (Ok x) = Ok (Some (say x))
told say o (Err e) = Err (refused e o)

abbrev pub point_line : Reading → Line
point_line r = line.Point r.value r.cells

abbrev pub sum_line : Reading → Line
sum_line r = line.Sum r.value r.cells

abbrev pub mean_line : Reading → Line
mean_line r = line.Mean r.value r.cells

-- a point addition, by the answer of the warehouse
abbrev pub Adds : View → ℕ → ℤ → ℕ → Reply → View → Type 0
Adds v i x o r v' = (q : Result ℕ Refusal) × AddsPoint v i x q v' × (r ≡ told line.Added o q)

-- a growth, by the answer of the warehouse
abbrev pub Raises : View → ℕ → Reply → View → Type 0
Raises v o r v' = (q : Result ℕ Refusal) × Growth v q v' × (r ≡ told line.Grown o q)

-- the load after each of its calls
abbrev pub begun : Result OpenLoad Refusal → Option OpenLoad
begun (Ok l) = Some l
begun (Err e) = None

abbrev pub filled : Result OpenLoad RefusedLoad → Option OpenLoad
filled (Ok l) = Some l
filled (Err e) = Some e.load

abbrev pub finished : Result ℕ RefusedLoad → Option OpenLoad
finished (Ok w) = None
finished (Err e) = Some e.load

-- what each of its calls prints
abbrev pub silent : ℕ → Result OpenLoad RefusedLoad → Reply
silent o (Ok l) = Ok None
silent o (Err e) = Err (refused e.refusal o)

abbrev pub counted : ℕ → Result ℕ RefusedLoad → Reply
counted o (Ok w) = Ok (Some (line.Finished w))
counted o (Err e) = Err (refused e.refusal o)

abbrev pub Begun : ℕ → Option OpenLoad → ℕ → ℕ → ℕ → Option OpenLoad → Reply → Type 0
Begun n (Some l) m p o l' r = (l' ≡ Some l) × (r ≡ Err (out_of_sequence o))
Begun n None m p o l' r = (q : Result OpenLoad Refusal) × Begins n m p q × (l' ≡ begun q) × (r ≡ told (λ _. line.Begun) o q)

abbrev pub Filled : Option OpenLoad → List ℤ → ℤ → ℕ → Option OpenLoad → Reply → List ℤ → Type 0
Filled None zs x o l' r zs' = (l' ≡ None) × (r ≡ Err (out_of_sequence o)) × (zs' ≡ zs)
Filled (Some l) zs x o l' r zs' = (q : Result OpenLoad RefusedLoad) × Takes l x zs q zs' × (l' ≡ filled q) × (r ≡ silent o q)

abbrev pub Finished : View → Option OpenLoad → List ℤ → ℕ → Option OpenLoad → Reply → View → Type 0
Finished v None zs o l' r v' = (l' ≡ None) × (r ≡ Err (out_of_sequence o)) × (v' ≡ v)
Finished v (Some l) zs o l' r v' = (q : Result ℕ RefusedLoad) × Finishes l v zs q v' × (l' ≡ finished q) × (r ≡ counted o q)

abbrev pub GivenUp : Option OpenLoad → ℕ → Option OpenLoad → Reply → Type 0
GivenUp None o l' r = (l' ≡ None) × (r ≡ Err (out_of_sequence o))
GivenUp (Some l) o l' r = (l' ≡ None) × (r ≡ Ok (Some (line.GivenUp l.taken)))

-- one command: the load, the reply, the buffer and the view after it
abbrev pub Obeys : View → Option OpenLoad → List ℤ → Command → ℕ → Option OpenLoad → Reply → List ℤ → View → Type 0
Obeys v l zs (Begin m p) o l' r zs' v' = Begun v.size l m p o l' r × (zs' ≡ zs) × (v' ≡ v)
Obeys v l zs (Value x) o l' r zs' v' = Filled l zs x o l' r zs' × (v' ≡ v)
Obeys v l zs Finish o l' r zs' v' = Finished v l zs o l' r v' × (zs' ≡ zs)
Obeys v l zs GiveUp o l' r zs' v' = GivenUp l o l' r × (zs' ≡ zs) × (v' ≡ v)
Obeys v l zs (Add i x) o l' r zs' v' = Adds v i x o r v' × (l' ≡ l) × (zs' ≡ zs)
Obeys v l zs (Point i) o l' r zs' v' = (r ≡ told point_line o (point_answer v i)) × (l' ≡ l) × (zs' ≡ zs) × (v' ≡ v)
Obeys v l zs (Sum a b) o l' r zs' v' = (r ≡ told sum_line o (sum_answer v a b)) × (l' ≡ l) × (zs' ≡ zs) × (v' ≡ v)
Obeys v l zs (Mean a b) o l' r zs' v' = (r ≡ told mean_line o (mean_answer v a b)) × (l' ≡ l) × (zs' ≡ zs) × (v' ≡ v)
Obeys v l zs Grow o l' r zs' v' = Raises v o r v' × (l' ≡ l) × (zs' ≡ zs)

-- a byte that is no command, and missing operands, end the feed
abbrev pub after_fault : FeedFault → Cause → ℕ → Outcome
after_fault f (Decode d) w = (Some (fault_line f), None)
after_fault f Sequence w = on (Some (fault_line f)) w
after_fault f (Warehouse e) w = on (Some (fault_line f)) w

abbrev pub after : Reply → ℕ → Outcome
after (Ok l) w = on l w
after (Err f) w = after_fault f f.cause w

abbrev pub StepsBy : Result (Command × List ℕ) DecodeFault → View → Option OpenLoad → List ℤ → List ℕ → ℕ → Stepped → List ℤ → View → Type 0
StepsBy (Err f) v l zs bs o s zs' v' = (s.reply ≡ Err (undecoded f o)) × (s.width ≡ None) × (s.loading ≡ l) × (zs' ≡ zs) × (v' ≡ v)
StepsBy (Ok (c, rest)) v l zs bs o s zs' v' = Obeys v l zs c o s.loading s.reply zs' v' × (s.width ≡ Some (length bs - length rest))

-- one command, from the bytes bs that begin with it, at offset o
abbrev pub Steps : View → Option OpenLoad → List ℤ → List ℕ → ℕ → Stepped → List ℤ → View → Type 0
Steps v l zs bs o s zs' v' = StepsBy (decoded bs) v l zs bs o s zs' v'

-- a load that is open at the end of the feed is given up, and its line printed
abbrev pub ending : Option OpenLoad → Option Line
ending None = None
ending (Some l) = Some (line.GivenUp l.taken)
