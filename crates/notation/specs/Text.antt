-- The text of a feed, one part a line.
--
-- command_line c   the letter of a command and its numbers, each after a space
-- bytes_line bs    an X, a space, and bytes in hex
-- part_line p      the line of a part, with its newline
-- text_of bs       the text of a feed
use Rattle.std.specs.Prelude.{ℕ, List, ◌++◌, codes}
use Rattle.std.specs.List.{flat_map}
use Rattle.hex.specs.Hex.{encode_lower}
use Rattle.wire.specs.Line.{field, signed_field, newline}
use Rattle.wire.specs.declared.command.Command.{Command}
use Rattle.wire.specs.declared.command.Command.TheVariants.{Grow, Begin, Value, Finish, GiveUp, Add, Point, Sum, Mean}
use Rattle.notation.specs.Parts.{Part, whole, unread, parts_of}

abbrev pub command_line : Command → List ℕ
command_line Grow = codes "G"
command_line (Begin level index) = codes "L" ++ field level ++ field index
command_line (Value value) = codes "V" ++ signed_field value
command_line Finish = codes "F"
command_line GiveUp = codes "A"
command_line (Add minute value) = codes "P" ++ field minute ++ signed_field value
command_line (Point minute) = codes "Q" ++ field minute
command_line (Sum from to) = codes "S" ++ field from ++ field to
command_line (Mean from to) = codes "M" ++ field from ++ field to

abbrev pub bytes_line : List ℕ → List ℕ
bytes_line bs = codes "X " ++ encode_lower bs

abbrev pub part_line : Part → List ℕ
part_line (whole at c) = command_line c ++ newline
part_line (unread at f bs) = bytes_line bs ++ newline

abbrev pub text_of : List ℕ → List ℕ
text_of bs = flat_map part_line (parts_of bs)
