-- The lines of a text, one after another.
use Rattle.std.proofs.Common.{◌≡◌, ℕ, ◌+◌, ◌<◌, ◌≤◌, Bool, eqb, List, [], ◌++◌, length, get_or, drop, Ok, Err, Result, sym, refl, ap, ◌∙◌, append_assoc, append-nil}
use Rattle.std.specs.List.{slice_split}
use Rattle.std.proofs.lemmas.List.{at_drop_more, at_drop_all}
use Rattle.notation.specs.declared.fault.Misread.{Misread}
use Rattle.notation.specs.declared.fault.TextFault.{TextFault}
use Rattle.notation.specs.declared.fault.PushFault.{PushFault}
use Rattle.notation.specs.declared.fault.PushFault.TheVariants.{Misread as Misread_in, Memory}
use Rattle.notation.specs.Reading.{map_ok, line_feed, joined, feed_lines, feed_of}
use Rattle.notation.specs.Pushing.{Pushes, located, Feeds}

abbrev pub is_newline : ℕ → Bool
is_newline b = eqb b 10

abbrev pub lines_of : List ℕ → List (List ℕ)
lines_of text = slice_split is_newline text

-- so many lines of the text are passed, which stand for the bytes fed
pub record Passed (text fed : List ℕ) (passed : ℕ) : Type 0 where
  pub lines : feed_of text ≡ map_ok (λ bs. fed ++ bs) (feed_lines (passed + 1) (drop passed (lines_of text)))

in_ok : Result (List ℕ) Misread → List ℕ
in_ok (Ok bs) = bs
in_ok (Err m) = []

none_before : (r : Result (List ℕ) TextFault) → r ≡ map_ok (λ bs. [] ++ bs) r
none_before (Ok bs) = refl
none_before (Err f) = refl

pub passed_none : (text : List ℕ) → Passed text [] 0
passed_none text = record { lines = none_before (feed_of text) }

joined_push : (n len : ℕ) (fed fed' : List ℕ) (r : Result (List ℕ) Misread) (more : Result (List ℕ) TextFault) → map_ok (λ bs. fed ++ bs) r ≡ Ok fed'
    → map_ok (λ bs. fed ++ bs) (joined n len r more) ≡ map_ok (λ bs. fed' ++ bs) more
unfolding in_ok
joined_push n len fed fed' (Ok bs) (Ok more) e = ap Ok (sym (append_assoc fed bs more) ∙ ap (λ x. x ++ more) (ap in_ok e))
joined_push n len fed fed' (Ok bs) (Err f) e = refl
joined_push n len fed fed' (Err m) more e = absurd cc

module _ (text fed : List ℕ) (passed : ℕ) (p : Passed text fed passed) where
  pub passed_all : length (lines_of text) ≤ passed → feed_of text ≡ Ok fed
  passed_all h = p.lines ∙ ap (map_ok (λ bs. fed ++ bs)) (at_drop_all (feed_lines (passed + 1)) (lines_of text) passed h) ∙ ap Ok (append-nil fed)

  module _ (line : List ℕ) (h : passed < length (lines_of text)) (is : line ≡ get_or (lines_of text) passed line) where
    abbrev more : Result (List ℕ) TextFault
    more = feed_lines (passed + 1 + 1) (drop (passed + 1) (lines_of text))

    opened : feed_of text ≡ map_ok (λ bs. fed ++ bs) (joined (passed + 1) (length line) (line_feed line) more)
    opened =
        p.lines
        ∙ ap (map_ok (λ bs. fed ++ bs)) (at_drop_more (feed_lines (passed + 1)) (lines_of text) passed line h)
        ∙ ap (λ (l : List ℕ). map_ok (λ bs. fed ++ bs) (joined (passed + 1) (length l) (line_feed l) more)) (sym is)

    pub passed_more : (fed' : List ℕ) → map_ok (λ bs. fed ++ bs) (line_feed line) ≡ Ok fed' → Passed text fed' (passed + 1)
    passed_more fed' e = record { lines = opened ∙ joined_push (passed + 1) (length line) fed fed' (line_feed line) more e }

    pub passed_refused : (new : List ℕ) (fault : PushFault) → Pushes (line_feed line) (Err fault) fed new → Feeds text (Err (located (passed + 1) (length line) fault))
    passed_refused new (Misread_in m) e = opened ∙ ap (λ r. map_ok (λ bs. fed ++ bs) (joined (passed + 1) (length line) r more)) e
    passed_refused new (Memory a) e = tt
