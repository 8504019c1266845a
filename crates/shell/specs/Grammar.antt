-- What a line says: a command, nothing, or the column of its first wrong word, and why it is wrong.
--
-- Said         a command with the values or bytes of its list; `said c` is that of the command c
-- none, one, two       a command of no operand, of one, or of two
-- operands v   the table: how the words after the word of the command v are read
-- command_at   the command that the next words say
-- command_of   the same, where no further word may come
-- line_of      what a line says
use Rattle.std.specs.Prelude.{ℕ, ◌+◌, ◌-◌, Bool, cond, ◌||◌, List, length, ℤ, Some, None, Ok, Err, Option, Result, ◌==◌, slice_index}
use Rattle.shell.specs.declared.command.Command.{Command}
use Rattle.shell.specs.declared.command.Command.TheVariants.{Flat, Sparse, Layer, Write, Read, Store, First, Second, Compare, Survey, Found, Take, Audit, Close, Size, Mark, Free, Add, Load, Grow, Settle, Point, Sum, Mean, Busiest, Trend, Cells, Line, Ring, Put, Welcome, Begin, Next, End, Replied, Help}
use Rattle.shell.specs.declared.wrong.Why.{Why}
use Rattle.shell.specs.declared.wrong.Why.TheVariants.{Name, Surplus}
use Rattle.shell.specs.declared.wrong.Wrong.{Wrong}
use Rattle.shell.specs.declared.wrong.Misread.{Misread}
use Rattle.shell.specs.declared.verb.Verb.{Verb}
use Rattle.shell.specs.declared.verb.Verb.TheVariants as verb
use Rattle.shell.specs.Verbs.{verb_of}
use Rattle.shell.specs.Words.{misread, begun, word, after, banded, byte, half, number, value, hex_bytes, ◌>>=◌, field_of, last_of, values_of, number_or_zero}

pub data Said : Type 0 where
  plain : Command → Said
  load : ℕ → ℕ → List ℤ → Said
  line : List ℕ → Said
  put : List ℕ → Said

abbrev pub said : Command → Said
said (Load level index values) = load level index values.items
said (Line bytes) = line bytes.items
said (Put bytes) = put bytes.items
said c = plain c

abbrev pub none : Command → List ℕ → Result (Said × List ℕ) Misread
none command bs = Ok (plain command, bs)

abbrev pub one : {A : Type 0} → (List ℕ → Result A Why) → (A → Command) → List ℕ → Result (Said × List ℕ) Misread
one read make bs = field_of read bs >>= λ p. Ok (plain (make p.0), p.1)

abbrev pub two : {A B : Type 0} → (List ℕ → Result A Why) → (List ℕ → Result B Why) → (A → B → Command) → List ℕ → Result (Said × List ℕ) Misread
two read then make bs = field_of read bs >>= λ p. field_of then p.1 >>= λ q. Ok (plain (make p.0 q.0), q.1)

abbrev pub hex : (List ℕ → Said) → List ℕ → Result (Said × List ℕ) Misread
hex make bs = last_of hex_bytes bs >>= λ p. Ok (make p.0, p.1)

abbrev pub whole_load : List ℕ → Result (Said × List ℕ) Misread
whole_load bs =
    field_of byte bs >>= λ p. field_of number p.1 >>= λ q. values_of value q.1 >>= λ r. Ok (load p.0 q.0 r.0, r.1)

abbrev pub taking : List ℕ → Result (Said × List ℕ) Misread
taking bs = field_of byte bs >>= λ p. number_or_zero p.1 >>= λ q. Ok (plain (Take p.0 q.0), q.1)

-- how the words after a command's own are read
abbrev pub operands : Verb → List ℕ → Result (Said × List ℕ) Misread
operands verb.Flat = one banded (λ bands. Flat bands.count)
operands verb.Sparse = two byte half Sparse
operands verb.Layer = none Layer
operands verb.Write = two number value Write
operands verb.Read = one number Read
operands verb.Store = none Store
operands verb.First = none First
operands verb.Second = none Second
operands verb.Compare = none Compare
operands verb.Survey = one byte Survey
operands verb.Found = one byte Found
operands verb.Take = taking
operands verb.Audit = one byte Audit
operands verb.Close = none Close
operands verb.Size = none Size
operands verb.Mark = none Mark
operands verb.Free = none Free
operands verb.Add = two number value Add
operands verb.Load = whole_load
operands verb.Grow = none Grow
operands verb.Settle = none Settle
operands verb.Point = one number Point
operands verb.Sum = two number number Sum
operands verb.Mean = two number number Mean
operands verb.Busiest = two number number Busiest
operands verb.Trend = two byte number Trend
operands verb.Cells = none Cells
operands verb.Line = hex line
operands verb.Ring = none Ring
operands verb.Put = hex put
operands verb.Welcome = none Welcome
operands verb.Begin = none Begin
operands verb.Next = none Next
operands verb.End = none End
operands verb.Replied = none Replied
operands verb.Help = none Help

abbrev pub command_by : List ℕ → Option Verb → Result (Said × List ℕ) Misread
command_by bs (Some v) = operands v (after bs)
command_by bs None = Err (misread (length (begun bs)) Name)

abbrev pub command_at : List ℕ → Result (Said × List ℕ) Misread
command_at bs = command_by bs (verb_of (word bs))

-- no further word may come
abbrev pub done : {A : Type 0} → A × List ℕ → Result A Misread
done p = cond (length (begun p.1) == 0) (Ok p.0) (Err (misread (length (begun p.1)) Surplus))

abbrev pub command_of : List ℕ → Result Said Misread
command_of bs = command_at bs >>= done

-- lines

pub record Told : Type 0 where
  pub column : ℕ
  pub said : Said

-- counted in bytes from 1
abbrev pub column : List ℕ → ℕ → ℕ
column l left = 1 + (length l - left)

abbrev pub told : List ℕ → Result Said Misread → Result (Option Told) Wrong
told l (Ok s) = Ok (Some (record { column = column l (length (begun l)); said = s }))
told l (Err m) = Err (record { column = column l m.left; why = m.why })

-- blanks alone, or a remark
abbrev pub is_silent : List ℕ → Bool
is_silent l = length (begun l) == 0 || slice_index (begun l) 0 == 35

abbrev pub line_of : List ℕ → Result (Option Told) Wrong
line_of l = cond (is_silent l) (Ok None) (told l (command_of l))
