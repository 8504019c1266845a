-- Wrong lines and refusals in words.
--
-- why_words, wrong_words      why a word is wrong, and its column before that
-- refused_number              the number of a refusal
-- refused_words               a refusal in words: why, and what was asked for
use Rattle.std.specs.Prelude.{ℕ, List, ◌++◌, codes}
use Rattle.std.specs.Fmt.{decimal}
use Rattle.store.specs.Faults.{cell_fault_number}
use Rattle.warehouse.specs.Faults.{fault_number}
use Rattle.warehouse.specs.Words.{fault_words, refusal_words}
use Rattle.warehouse.specs.declared.fault.Fault.TheVariants.{Cell as CellFault}
use Rattle.link.specs.Faults.{fault_number as link_number}
use Rattle.link.specs.declared.fault.Fault.{Fault}
use Rattle.link.specs.declared.fault.Fault.TheVariants.{NoMotor, Line}
use Rattle.shell.specs.declared.answer.Refused.{Refused}
use Rattle.shell.specs.declared.answer.Refused.TheVariants.{Cell, Warehouse, Link}
use Rattle.shell.specs.declared.wrong.Why.{Why}
use Rattle.shell.specs.declared.wrong.Why.TheVariants.{Name, Missing, NotNumber, TooLarge, NotHex, Surplus, NoPile, NoSecond, NoWarehouse, Standing, Layers, NoLine, NoRing, NotWelcome, NotReady, NotFeeding}
use Rattle.shell.specs.declared.wrong.Wrong.{Wrong}

abbrev pub why_words : Why → List ℕ
why_words Name = codes "no command has this name"
why_words Missing = codes "a word is missing"
why_words NotNumber = codes "this is not a number"
why_words TooLarge = codes "the number is too large"
why_words NotHex = codes "these are not bytes in hex"
why_words Surplus = codes "a word too many"
why_words NoPile = codes "there is no pile"
why_words NoSecond = codes "there is no second pile"
why_words NoWarehouse = codes "there is no warehouse"
why_words Standing = codes "a warehouse stands: close it first"
why_words Layers = codes "the pile has three layers"
why_words NoLine = codes "there is no line"
why_words NoRing = codes "the line is no ring"
why_words NotWelcome = codes "the link is not in Welcome"
why_words NotReady = codes "the link is not Ready"
why_words NotFeeding = codes "the link is not Feeding"

abbrev pub wrong_words : Wrong → List ℕ
wrong_words w = decimal w.column ++ codes ": " ++ why_words w.why

abbrev pub refused_number : Refused → ℕ
refused_number (Cell f) = cell_fault_number f
refused_number (Warehouse r) = fault_number r.fault
refused_number (Link f) = link_number f

abbrev pub link_words : Fault → List ℕ
link_words NoMotor = codes "No motor"
link_words Line = codes "Line"

abbrev pub refused_words : Refused → List ℕ
refused_words (Cell f) = fault_words (CellFault f)
refused_words (Warehouse r) = refusal_words r
refused_words (Link f) = link_words f
