use Rattle.shell.proofs.Runs.{words_are_runs}
use Rattle.shell.proofs.laws.words_are_runs.Goals as goal

pub returns : goal.returns
returns c = words_are_runs
