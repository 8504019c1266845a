use Rattle.std.proofs.Common.{rules}
use Rattle.std.proofs.lemmas.List.{take_rest}
use Rattle.wire.proofs.decode.decode.Goals as goal

pub returns-in-86-len4-up : goal.returns-in-86-len4-up
returns-in-86-len4-up c = rw take_rest (rw take_rest (search rules))
