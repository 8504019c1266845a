-- What a call answers that reads words, where memory may be wanting.
--
-- capped w             the number of the word w, at most 2^64 - 1
-- Reads reading r new       r is what was read and `new` the bytes after it, or r says why there is none
-- ReadsList, ReadsCommand   the same of a list and of a command, where r may also be without memory
-- ReadsWhole reading r       the same of a command after which no word comes
-- located l u                why the line l was not read
-- ReadsLine l r              r is what the line l says, or r is without memory
use Rattle.std.specs.Prelude.{◌≡◌, ℕ, ◌-◌, ◌^◌, min, cond, List, Some, None, Ok, Err, Option, Result}
use Rattle.std.specs.Global.{Vec}
use Rattle.std.specs.Str.Parse.{digits_value}
use Rattle.shell.specs.declared.wrong.Why.{Why}
use Rattle.shell.specs.declared.wrong.Why.TheVariants.{NotNumber}
use Rattle.shell.specs.declared.wrong.Misread.{Misread}
use Rattle.shell.specs.declared.wrong.Unread.{Unread}
use Rattle.shell.specs.declared.wrong.Unread.TheVariants as unread
use Rattle.shell.specs.declared.wrong.LineFault.{LineFault}
use Rattle.shell.specs.declared.wrong.LineFault.TheVariants as fault
use Rattle.shell.specs.declared.command.Command.{Command}
use Rattle.shell.specs.declared.command.Spoken.{Spoken}
use Rattle.shell.specs.Words.{is_numeral}
use Rattle.shell.specs.Grammar.{Said, said, Told, column, line_of}

abbrev pub capped : List ℕ → Result ℕ Why
capped w = cond (is_numeral w) (Ok (min (2 ^ 64 - 1) (digits_value 10 w))) (Err NotNumber)

abbrev pub Reads : {A : Type 0} → Result (A × List ℕ) Misread → Result A Misread → List ℕ → Type 0
Reads reading (Ok x) new = reading ≡ Ok (x, new)
Reads reading (Err m) new = reading ≡ Err m

abbrev pub ReadsList : {A : Type 0} → Result (List A × List ℕ) Misread → Result (Vec A) Unread → List ℕ → Type 0
ReadsList reading (Ok xs) new = reading ≡ Ok (xs.items, new)
ReadsList reading (Err (unread.Misread m)) new = reading ≡ Err m
ReadsList reading (Err (unread.Memory e)) new = Unit {0}

abbrev pub ReadsCommand : Result (Said × List ℕ) Misread → Result Command Unread → List ℕ → Type 0
ReadsCommand reading (Ok c) new = reading ≡ Ok (said c, new)
ReadsCommand reading (Err (unread.Misread m)) new = reading ≡ Err m
ReadsCommand reading (Err (unread.Memory e)) new = Unit {0}

abbrev pub ReadsWhole : Result Said Misread → Result Command Unread → Type 0
ReadsWhole reading (Ok c) = reading ≡ Ok (said c)
ReadsWhole reading (Err (unread.Misread m)) = reading ≡ Err m
ReadsWhole reading (Err (unread.Memory e)) = Unit {0}

abbrev pub located : List ℕ → Unread → LineFault
located l (unread.Misread m) = fault.Wrong (record { column = column l m.left; why = m.why })
located l (unread.Memory e) = fault.Memory e

abbrev pub spoken : Spoken → Told
spoken s = record { column = s.column; said = said s.command }

abbrev pub ReadsLine : List ℕ → Result (Option Spoken) LineFault → Type 0
ReadsLine l (Ok None) = line_of l ≡ Ok None
ReadsLine l (Ok (Some s)) = line_of l ≡ Ok (Some (spoken s))
ReadsLine l (Err (fault.Wrong w)) = line_of l ≡ Err w
ReadsLine l (Err (fault.Memory e)) = Unit {0}
