use Rattle.feedlaw.proofs.Telling.{told_none, told_turn, told_stop}
use Rattle.feedlaw.proofs.laws.told_stands.Goals as goal

pub returns : goal.returns
returns c T room d o = record { none = told_none T room d o; next = told_turn T room d o; stop = told_stop T room d o }
