use Rattle.std.proofs.Common.{rules, tests, ◌≡◌, ℕ, ◌+◌, ◌<◌, ◌≤◌, List, length, get_or, Bor, true, is_ok, ◌++◌, Option, Some, None, Result, Ok, Err, sym, subst, ap, ◌∙◌, arith}
use Rattle.std.specs.Result.{MatchResult}
use Rattle.std.specs.Iterator.{Yields}
use Rattle.std.specs.Slice.Iter.{split_rest, split_done, split_callee}
use Rattle.std.specs.Iterator.Adapters.{enumerate_source, enumerate_count}
use Rattle.std.specs.List.{enumerate_from}
use Rattle.std.proofs.lemmas.Iterator.{YieldsList}
use Rattle.std.proofs.lemmas.Iterator.Splits.{YieldsList-from_slice_split}
use Rattle.std.proofs.lemmas.Iterator.Consumers.{YieldsList-from_enumerate, YieldsList-turn, YieldsList-end}
use Rattle.std.proofs.lemmas.List.{length_push}
use Rattle.std.proofs.lemmas.List.FromFn.{length-enumerate_from, get_or-enumerate_from}
use Rattle.notation.specs.declared.fault.Misread.{Misread}
use Rattle.notation.specs.declared.fault.PushFault.{PushFault}
use Rattle.notation.specs.declared.fault.ReadingFault.{ReadingFault}
use Rattle.notation.specs.Reading.{line_feed, map_ok}
use Rattle.notation.specs.Pushing.{Pushes, located, Feeds}
use Rattle.notation.proofs.Lines.{is_newline, lines_of, Passed, passed_all, passed_more, passed_refused}
use Rattle.notation.proofs.feed.feed_of.Goals as goal

abbrev seen : ℕ × Bor (List ℕ) → ℕ × List ℕ
seen p = (p.0, p.1.now)

module _ {S : Type 0} {steps : S → Option (ℕ × Bor (List ℕ)) → S → Type 0} {s : S} (text : List ℕ) (xs : List (ℕ × Bor (List ℕ))) (t : S) (y : Yields steps s xs t) (r : Option (ℕ × Bor (List ℕ))) (u : S) where
  turn : (passed : ℕ) (line : Bor (List ℕ)) → r ≡ Some (passed, line) → steps t r u → YieldsList {B = ℕ × List ℕ} steps seen s (enumerate_from 0 (lines_of text))
      → (length xs < length (lines_of text)) × (passed ≡ length xs) × (line.now ≡ get_or (lines_of text) (length xs) line.now)
  turn passed line is p e =
      let k = YieldsList-turn e xs t y r u (passed, line) is p in
      let l : length xs < length (lines_of text) = omega (arith, k.0, length-enumerate_from 0 (lines_of text)) in
      let q = k.1 ∙ get_or-enumerate_from 0 (lines_of text) (length xs) (seen (passed, line)) l in
      let first : passed ≡ 0 + length xs = ap (λ (p : ℕ × List ℕ). p.0) q in
      (l, omega (arith, first), ap (λ (p : ℕ × List ℕ). p.1) q)

  ended : r ≡ None → steps t r u → YieldsList {B = ℕ × List ℕ} steps seen s (enumerate_from 0 (lines_of text)) → length (lines_of text) ≤ length xs
  ended is p e = omega (arith, (YieldsList-end e xs t y r u is p).1, length-enumerate_from 0 (lines_of text))

pushed : (r : Result Unit PushFault) (reading : Result (List ℕ) Misread) (old new : List ℕ) → Pushes reading r old new → is_ok r ≡ true → map_ok (λ bs. old ++ bs) reading ≡ Ok new
pushed (Ok u) reading old new p is = p
pushed (Err f) reading old new p is = absurd cc

pub lines-preserved : goal.lines-preserved
lines-preserved c =
    let begins : c.into_iter-passed-iterator.result ≡ c.enumerate-passed-items.result = c.into_iter-passed-iterator.ensures.into_iter_gives in
    let from : c.into_iter-passed-iterator.result.iter ≡ c.split.result = ap enumerate_source begins ∙ c.enumerate-passed-items.ensures.source in
    let t = turn c.args.text.now c.lines.yielded _ c.lines.yielded_by _ _ c.in-Some.passed c.in-Some.line c.in-Some.is c.next.ensures.steps
    (YieldsList-from_enumerate {s = c.into_iter-passed-iterator.result}
    (YieldsList-from_slice_split _ is_newline c.args.text.now (ap split_rest from ∙ c.split.ensures.rest) (ap split_done from ∙ c.split.ensures.done) (ap split_callee from ∙ c.split.ensures.closure) (λ x r q k. search (rules, tests)))
    (ap enumerate_count begins ∙ c.enumerate-passed-items.ensures.count)) in
    let more = passed_more c.args.text.now _ _ c.lines.invariant c.in-Some.line.now t.0 t.2 c.push_line.new.feed.items (pushed c.push_line.result _ _ _ c.push_line.ensures (search rules)) in
    subst (Passed c.args.text.now c.push_line.new.feed.items) (sym (length_push c.lines.yielded (c.in-Some.passed, c.in-Some.line))) more

refused : (text fed new line : List ℕ) (n : ℕ) (r : Result Unit PushFault) (e : ReadingFault) → Pushes (line_feed line) r fed new → MatchResult r (λ u. ◌≡◌ {A = Result Unit ReadingFault} (Err e) (Ok u)) (λ f. e ≡ located (n + 1) (length line) f)
    → ((f : PushFault) → Pushes (line_feed line) (Err f) fed new → Feeds text (Err (located (n + 1) (length line) f))) → Feeds text (Err e)
refused text fed new line n (Ok u) e p m k = absurd cc
refused text fed new line n (Err f) e p m k = subst (λ x. Feeds text (Err x)) (sym m) (k f p)

pub returns-in_err-map_err : goal.returns-in_err-map_err
returns-in_err-map_err c =
    let begins : c.into_iter-passed-iterator.result ≡ c.enumerate-passed-items.result = c.into_iter-passed-iterator.ensures.into_iter_gives in
    let from : c.into_iter-passed-iterator.result.iter ≡ c.split.result = ap enumerate_source begins ∙ c.enumerate-passed-items.ensures.source in
    let t = turn c.args.text.now c.lines.yielded _ c.lines.yielded_by _ _ c.in-Some.passed c.in-Some.line c.in-Some.is c.next.ensures.steps
    (YieldsList-from_enumerate {s = c.into_iter-passed-iterator.result}
    (YieldsList-from_slice_split _ is_newline c.args.text.now (ap split_rest from ∙ c.split.ensures.rest) (ap split_done from ∙ c.split.ensures.done) (ap split_callee from ∙ c.split.ensures.closure) (λ x r q k. search (rules, tests)))
    (ap enumerate_count begins ∙ c.enumerate-passed-items.ensures.count)) in
    let is : c.from_residual.result ≡ Err c.in_err-map_err.field-0.0 = search rules in
    let m : MatchResult c.push_line.result (λ u. ◌≡◌ {A = Result Unit ReadingFault} (Err c.in_err-map_err.field-0.0) (Ok u)) (λ f. c.in_err-map_err.field-0.0 ≡ located (c.in-Some.passed + 1) (length c.in-Some.line.now) f) = search (rules, tests) in
    rw is
    (refused c.args.text.now _ _ c.in-Some.line.now c.in-Some.passed c.push_line.result _ c.push_line.ensures m
    (λ f p. subst (λ (n : ℕ). Feeds c.args.text.now (Err (located (n + 1) (length c.in-Some.line.now) f))) (sym t.1) (passed_refused c.args.text.now _ _ c.lines.invariant c.in-Some.line.now t.0 t.2 _ f p)))

pub returns : goal.returns
returns c =
    let begins : c.into_iter-passed-iterator.result ≡ c.enumerate-passed-items.result = c.into_iter-passed-iterator.ensures.into_iter_gives in
    let from : c.into_iter-passed-iterator.result.iter ≡ c.split.result = ap enumerate_source begins ∙ c.enumerate-passed-items.ensures.source in
    let e = ended c.args.text.now c.lines.yielded _ c.lines.yielded_by _ _ c.in-None.is c.next.ensures.steps
    (YieldsList-from_enumerate {s = c.into_iter-passed-iterator.result}
    (YieldsList-from_slice_split _ is_newline c.args.text.now (ap split_rest from ∙ c.split.ensures.rest) (ap split_done from ∙ c.split.ensures.done) (ap split_callee from ∙ c.split.ensures.closure) (λ x r q k. search (rules, tests)))
    (ap enumerate_count begins ∙ c.enumerate-passed-items.ensures.count)) in
    passed_all c.args.text.now _ _ c.lines.invariant e
