-- What holds of lines and of help, with worked lines.
--
-- HelpNamesAll   each line of help begins with the word of a command, in order, and none is left out
-- WordsAreRuns   a line begins with blanks, then its first word, which has none, and then a blank or nothing; a word that comes is not empty
-- Worked         worked lines: what each says
use Rattle.std.specs.Prelude.{◌≡◌, ℕ, ◌<◌, Bool, true, not, List, [], ◌∷◌, ◌++◌, length, take, map, pos, negsuc, Some, None, Ok, Err, ◌==◌, codes}
use Rattle.std.specs.List.{slice_split, list_all}
use Rattle.shell.specs.declared.command.Command.TheVariants.{Add, Size}
use Rattle.shell.specs.declared.wrong.Why.TheVariants.{Name, Missing, NotNumber, TooLarge, Surplus}
use Rattle.shell.specs.Words.{blank, blanks, begun, word, after}
use Rattle.shell.specs.Verbs.{verbs, name_of}
use Rattle.shell.specs.Grammar.{plain, load, line_of}
use Rattle.shell.specs.Answers.{help_words}

abbrev pub HelpNamesAll : Type 0
HelpNamesAll = map word (slice_split (λ b. b == 10) help_words) ≡ map name_of verbs

-- nothing, or a blank and what follows
abbrev pub is_past_word : List ℕ → Bool
is_past_word [] = true
is_past_word (b ∷ bs) = blank b

pub record IsRun (l : List ℕ) : Type 0 where
  pub front : list_all blank (take (blanks l) l) ≡ true
  pub whole : take (blanks l) l ++ (word l ++ after l) ≡ l
  pub inside : list_all (λ b. not (blank b)) (word l) ≡ true
  pub past : is_past_word (after l) ≡ true
  pub some : 0 < length (begun l) → 0 < length (word l)

abbrev pub WordsAreRuns : Type 0
WordsAreRuns = (l : List ℕ) → IsRun l

pub record Worked : Type 0 where
  pub added : line_of (codes "add 5 -7") ≡ Ok (Some (record { column = 1; said = plain (Add 5 (negsuc 6)) }))
  pub spaced : line_of (32 ∷ 9 ∷ codes "size" ++ 9 ∷ []) ≡ Ok (Some (record { column = 3; said = plain Size }))
  pub loaded : line_of (codes "load 1 8 3  -1") ≡ Ok (Some (record { column = 1; said = load 1 8 (pos 3 ∷ negsuc 0 ∷ []) }))
  pub empty : line_of [] ≡ Ok None
  pub remark : line_of (codes " # add 5 7") ≡ Ok None
  pub no_name : line_of (codes " Size") ≡ Err (record { column = 2; why = Name })
  pub missing : line_of (codes "add 5") ≡ Err (record { column = 6; why = Missing })
  pub signed : line_of (codes "add -5 7") ≡ Err (record { column = 5; why = NotNumber })
  pub large : line_of (codes "add 4294967296 7") ≡ Err (record { column = 5; why = TooLarge })
  pub surplus : line_of (codes "size 7 8") ≡ Err (record { column = 6; why = Surplus })
