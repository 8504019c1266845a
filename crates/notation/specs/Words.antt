-- A feed in words, one part a line.
--
-- phrase c          what a command says
-- ending f b        why no command can be read where the byte b stands
-- part_words p      the line of a part: its place, and what is there
-- words_of bs       the words of a feed
use Rattle.std.specs.Prelude.{ℕ, List, ◌++◌, codes, decimal, slice_index}
use Rattle.std.specs.Fmt.{signed_decimal}
use Rattle.std.specs.List.{flat_map}
use Rattle.wire.specs.Line.{newline}
use Rattle.wire.specs.declared.command.Command.{Command}
use Rattle.wire.specs.declared.command.Command.TheVariants.{Grow, Begin, Value, Finish, GiveUp, Add, Point, Sum, Mean}
use Rattle.wire.specs.declared.command.DecodeFault.{DecodeFault}
use Rattle.wire.specs.declared.command.DecodeFault.TheVariants.{Command as Unknown, Cut}
use Rattle.notation.specs.Parts.{Part, whole, unread, parts_of}

abbrev pub phrase : Command → List ℕ
phrase Grow = codes "grow"
phrase (Begin level index) = codes "begin a load of level " ++ (decimal level ++ (codes " and index " ++ decimal index))
phrase (Value value) = codes "value " ++ signed_decimal value
phrase Finish = codes "finish the load"
phrase GiveUp = codes "give the load up"
phrase (Add minute value) = codes "add " ++ (signed_decimal value ++ (codes " to minute " ++ decimal minute))
phrase (Point minute) = codes "ask for minute " ++ decimal minute
phrase (Sum from to) = codes "ask for the sum of the minutes from " ++ (decimal from ++ (codes " up to " ++ decimal to))
phrase (Mean from to) = codes "ask for the mean of the minutes from " ++ (decimal from ++ (codes " up to " ++ decimal to))

abbrev pub ending : DecodeFault → ℕ → List ℕ
ending Unknown b = codes "no command begins with byte " ++ decimal b
ending Cut b = codes "the feed ends inside a command"

abbrev pub at_byte : ℕ → List ℕ
at_byte at = codes "at byte " ++ (decimal at ++ codes ": ")

abbrev pub part_words : Part → List ℕ
part_words (whole at c) = at_byte at ++ phrase c ++ newline
part_words (unread at f bs) = at_byte at ++ ending f (slice_index bs 0) ++ newline

abbrev pub words_of : List ℕ → List ℕ
words_of bs = flat_map part_words (parts_of bs)
