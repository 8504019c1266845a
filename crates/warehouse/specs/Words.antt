-- A refusal in words.
--   fault_words     why, with the cell or the place
--   asked_words     what was asked for
--   refusal_words   both
use Rattle.std.specs.Prelude.{ℕ, List, ◌++◌, codes}
use Rattle.std.specs.Fmt.{decimal}
use Rattle.store.specs.declared.fault.CellFault.TheVariants as cell
use Rattle.warehouse.specs.declared.fault.Asked.{Asked}
use Rattle.warehouse.specs.declared.fault.Asked.TheVariants as asked
use Rattle.warehouse.specs.declared.fault.Fault.{Fault}
use Rattle.warehouse.specs.declared.fault.Fault.TheVariants.{Cell, Level, Value, Buffer, Range, Interval, Size, Domain, Large, Full, Top, Short, Over, Torn, Dirty, Fine}
use Rattle.warehouse.specs.declared.fault.Refusal.{Refusal}

abbrev pub fault_words : Fault → List ℕ
fault_words (Cell (cell.Cell c)) = codes "no cell " ++ decimal c
fault_words (Cell (cell.Full c)) = codes "no room for cell " ++ decimal c
fault_words Level = codes "chunk level over 12"
fault_words (Value i) = codes "value outside its limits at place " ++ decimal i
fault_words Buffer = codes "buffer too short"
fault_words Range = codes "range backward, or empty for a mean"
fault_words Interval = codes "trend level 0 or over 20"
fault_words Size = codes "store cannot have the size"
fault_words Domain = codes "not inside the size"
fault_words (Large c) = codes "cell " ++ decimal c ++ codes " would pass the limit"
fault_words Full = codes "no room for so many nonzero cells"
fault_words Top = codes "store cannot grow further"
fault_words Short = codes "not all values came"
fault_words Over = codes "load has all its values"
fault_words (Torn c) = codes "cell " ++ decimal c ++ codes " cannot belong to a sum"
fault_words (Dirty c) = codes "store not empty, or room below zero, at cell " ++ decimal c
fault_words (Fine c) = codes "cell " ++ decimal c ++ codes " has no exact trend"

abbrev pub asked_words : Asked → List ℕ
asked_words (asked.Interval j k) = codes "interval " ++ decimal k ++ codes " of level " ++ decimal j
asked_words (asked.Minute i) = codes "minute " ++ decimal i
asked_words (asked.Minutes a b) = codes "minutes from " ++ decimal a ++ codes " up to " ++ decimal b
asked_words (asked.Size n) = codes "size " ++ decimal n

abbrev pub refusal_words : Refusal → List ℕ
refusal_words r = fault_words r.fault ++ (codes ", asked for " ++ asked_words r.asked)
