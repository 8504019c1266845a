-- What a line means that is a captured one or a ring.
use Rattle.link.specs.Meaning.{Meaning, meaning_of}
use Rattle.gymshell.specs.declared.board.Wire.{Wire}
use Rattle.gymshell.specs.declared.board.Wire.TheVariants.{Captured, Ring}

abbrev pub wire_means : Wire → Meaning
wire_means (Captured c) = meaning_of c
wire_means (Ring r) = meaning_of r
