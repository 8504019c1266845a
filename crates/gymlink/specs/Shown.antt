-- What a session shows, on the pile of the rules.
--   no_values       what the buffer holds at first
--   session_text    each state of the link and each line of the feed, for a line that has captured some bytes
use Rattle.std.specs.Prelude.{List, ℕ, ℤ, pos, replicate}
use Rattle.linkfeed.specs.Session.{greeted, whole}

abbrev pub no_values : List ℤ
no_values = replicate 4096 (pos 0)

abbrev pub session_text : List ℕ → List ℕ
session_text captured = (whole (greeted 3 (pos 1024) 4 no_values captured)).shown
