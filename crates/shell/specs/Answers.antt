-- The lines of an answer, byte by byte.
--
-- trend_words t    a trend, with its amount
-- help_words       the commands, a newline between two
-- words_of a       the answer a without its last newline
-- answer_lines a   the lines of the answer a, each with its newline
-- Appends more r old new     these bytes stand after the old ones, unless r is an error
use Rattle.std.specs.Prelude.{◌≡◌, ℕ, ◌/◌, ◌%◌, Bool, true, false, List, [], ◌∷◌, ◌++◌, Some, None, Option, Result, OnOk, codes}
use Rattle.std.specs.Fmt.{decimal, signed_decimal, digit_glyph}
use Rattle.haar.specs.declared.trend.Trend.{Trend}
use Rattle.haar.specs.declared.trend.Trend.TheVariants as trend
use Rattle.compare.specs.declared.comparison.Comparison.{Comparison}
use Rattle.compare.specs.declared.comparison.Comparison.TheVariants as compared
use Rattle.shell.specs.declared.answer.Answer.{Answer}
use Rattle.shell.specs.declared.answer.Answer.TheVariants.{Done, Number, Reading, Trend as Trended, Fit, Size, Store, Cell, Cells, Compared, Audited, Taken, Welcome, Ready, Feeding, Byte, Refused, Wrong, Help}
use Rattle.shell.specs.Amount.{amount_text}
use Rattle.shell.specs.Faults.{wrong_words, refused_number, refused_words}

unfoldable pub help_words : List ℕ
help_words =
    codes "flat T\n"
    ++ codes "sparse T C\n"
    ++ codes "layer\n"
    ++ codes "write C V\n"
    ++ codes "read C\n"
    ++ codes "store\n"
    ++ codes "first\n"
    ++ codes "second\n"
    ++ codes "compare\n"
    ++ codes "survey N\n"
    ++ codes "found N\n"
    ++ codes "take N [MARK]\n"
    ++ codes "audit N\n"
    ++ codes "close\n"
    ++ codes "size\n"
    ++ codes "mark\n"
    ++ codes "free\n"
    ++ codes "add MINUTE VALUE\n"
    ++ codes "load LEVEL INDEX VALUE..\n"
    ++ codes "grow\n"
    ++ codes "settle\n"
    ++ codes "point I\n"
    ++ codes "sum A B\n"
    ++ codes "mean A B\n"
    ++ codes "busiest A B\n"
    ++ codes "trend J K\n"
    ++ codes "cells\n"
    ++ codes "line HEX\n"
    ++ codes "ring\n"
    ++ codes "put HEX\n"
    ++ codes "welcome\n"
    ++ codes "begin\n"
    ++ codes "next\n"
    ++ codes "end\n"
    ++ codes "replied\n"
    ++ codes "help"

abbrev pub yes_no : Bool → List ℕ
yes_no true = codes "yes"
yes_no false = codes "no"

abbrev pub trend_words : Trend → List ℕ
trend_words (trend.Falling x) = codes "falling " ++ amount_text x
trend_words (trend.Rising x) = codes "rising " ++ amount_text x
trend_words trend.Level = codes "level"
trend_words trend.Unfinished = codes "unfinished"

abbrev pub compared_words : Comparison → List ℕ
compared_words compared.Alike = codes "alike"
compared_words (compared.Differ c) = codes "differ " ++ decimal c
compared_words compared.Bands = codes "bands"

abbrev pub byte_words : Option ℕ → List ℕ
byte_words (Some b) = digit_glyph false (b / 16) ∷ digit_glyph false (b % 16) ∷ []
byte_words None = codes "none"

abbrev pub two : List ℕ → List ℕ → List ℕ
two a b = a ++ codes " " ++ b

abbrev pub store_words : ℕ → ℕ → Bool → List ℕ
store_words bands free clean = codes "bands " ++ decimal bands ++ codes " free " ++ decimal free ++ codes " clean " ++ yes_no clean

abbrev pub words_of : Answer → List ℕ
words_of Done = codes "ok"
words_of (Number n) = signed_decimal n
words_of (Reading r) = two (signed_decimal r.value) (decimal r.cells)
words_of (Trended t) = trend_words t
words_of Fit = codes "fit"
words_of (Size n) = codes "size " ++ decimal n
words_of (Store bands free clean) = store_words bands free clean
words_of (Cell c v) = two (decimal c) (signed_decimal v)
words_of (Cells n) = decimal n ++ codes " cells"
words_of (Compared c) = compared_words c
words_of (Audited is) = yes_no is
words_of (Taken k) = codes "taken " ++ decimal k
words_of (Welcome k) = codes "welcome " ++ decimal k
words_of Ready = codes "ready"
words_of Feeding = codes "feeding"
words_of (Byte b) = byte_words b
words_of (Refused r) = codes "E " ++ decimal (refused_number r) ++ codes " " ++ refused_words r
words_of (Wrong w) = codes "? " ++ wrong_words w
words_of Help = help_words

abbrev pub ended : List ℕ → List ℕ
ended words = words ++ codes "\n"

abbrev pub answer_lines : Answer → List ℕ
answer_lines a = ended (words_of a)

abbrev pub Appends : {T E : Type 0} → List ℕ → Result T E → List ℕ → List ℕ → Type 0
Appends more r old new = OnOk r (new ≡ old ++ more)
