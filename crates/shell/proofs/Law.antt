-- Help, and the worked lines.
use Rattle.std.proofs.Common.{refl}
use Rattle.shell.specs.Words.{values}
use Rattle.shell.specs.Answers.{help_words}
use Rattle.shell.specs.Law.{HelpNamesAll, Worked}

pub help_names_all : HelpNamesAll
unfolding help_words
help_names_all = refl

pub worked : Worked
unfolding values
worked =
    record {
      added = refl;
      spaced = refl;
      loaded = refl;
      empty = refl;
      remark = refl;
      no_name = refl;
      missing = refl;
      signed = refl;
      large = refl;
      surplus = refl;
    }
