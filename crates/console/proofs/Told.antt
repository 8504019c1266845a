-- A feed on a warehouse with a history, by the recount.
use Rattle.std.proofs.Common.{◌≡◌, ℕ, ◌+◌, ◌-◌, List, [], ◌∷◌, ◌++◌, length, ℤ, Some, None, Ok, Err, Option, sym, refl, ap, ◌∙◌, subst, ap₂, append-nil, arith}
use Rattle.store.specs.declared.interface.Store as store
use Rattle.warehouse.specs.declared.record.Warehouse.{Warehouse}
use Rattle.warehouse.specs.View.{known}
use Rattle.wire.specs.declared.line.Line.{Line}
use Rattle.wire.proofs.Rows.{shorter}
use Rattle.loads.specs.declared.open.OpenLoad.{OpenLoad}
use Rattle.feed.specs.declared.fault.Cause.{Cause}
use Rattle.feed.specs.declared.fault.Cause.TheVariants as cause
use Rattle.feed.specs.declared.fault.FeedFault.{FeedFault}
use Rattle.feed.specs.Faults.{fault_line}
use Rattle.feed.specs.Step as step
use Rattle.agreement.specs.History.{Beginning, History, Leads, capacity}
use Rattle.feedlaw.specs.Turns.{turn}
use Rattle.feedlaw.specs.Lines.{Told, ending, ended, before, shown, told}
use Rattle.feedlaw.specs.Law.{load_of, desk_of}
use Rattle.feedlaw.proofs.Obeying.{obeyed_right}
use Rattle.feedlaw.proofs.Telling.{told_none, told_turn, told_stop, before_both}
use Rattle.console.specs.Playing.{State, Turn, state, Passed, printed, Over, Fed}
use Rattle.console.specs.Running.{told_after, Left, closing}
use Rattle.console.proofs.Passing.{decoded_with, width_with}

-- what is printed of a command is what its reply says
fault_said : (f : FeedFault) (c : Cause) (w : ℕ) → (step.after_fault f c w).0 ≡ Some (fault_line f)
fault_said f (cause.Decode d) w = refl
fault_said f cause.Sequence w = refl
fault_said f (cause.Warehouse e) w = refl

after_said : (r : step.Reply) (w : ℕ) → (step.after r w).0 ≡ step.said r
after_said (Ok l) w = refl
after_said (Err f) w = fault_said f f.cause w

module _ {S : Type 0} (kind : store.Ghosts S) (F : Beginning) where
  abbrev T : ℕ
  T = F.view.store.bands

  abbrev room : ℤ
  room = capacity F.view.store

  -- the lines to come, and the desk that is left
  abbrev to_come : History → State S → ℕ → List ℕ → Told
  to_come h s o bs = told T room (desk_of F h s.loading s.values) o bs

  -- a history went on to a longer one, and what was printed is what the recount says, whatever bytes come then
  record Recounted (h : History) (s : State S) (o : ℕ) (bs : List ℕ) (lines : List Line) (t : State S) : Type 0 where
    history : History
    leads : Leads F history (known kind.means t.warehouse)
    come : (more : List ℕ) → to_come h s o (bs ++ more) ≡ before lines (to_come history t (o + length bs) more)

  recounted : (h : History) (s t : State S) (o : ℕ) (bs : List ℕ) (xs : List (Turn S)) → Leads F h (known kind.means s.warehouse) → Passed kind s o bs xs t → Recounted h s o bs (printed xs) t
  recounted h s t o bs [] leads p =
      let here : o ≡ o + length bs = omega (arith, ap length p.0) in
      record {
        history = h;
        leads = subst (λ x. Leads F h (known kind.means x.warehouse)) (sym p.1) leads;
        come = λ more. ap (λ b. to_come h s o (b ++ more)) p.0 ∙ ap₂ (λ x i. to_come h x i more) (sym p.1) here;
      }
  recounted h s t o bs (x ∷ xs) leads p =
      let rest = p.0 in
      let w = length bs - length rest in
      let turned = turn T room (desk_of F h s.loading s.values) x.command o in
      let one = obeyed_right F (known kind.means s.warehouse) (known kind.means x.left.warehouse) h s.loading x.left.loading s.values x.left.values x.command o x.reply leads p.2.obeys in
      let short = shorter bs rest x.command p.1 in
      let says : shown turned.line ≡ shown (step.said x.reply) = ap shown (sym (ap (λ y. y.0) (one.line w)) ∙ after_said x.reply w) in
      let more_turns = recounted one.history x.left t (o + w) rest xs one.leads p.3 in
      let there : (o + w) + length rest ≡ o + length bs = omega arith in
      record {
        history = more_turns.history;
        leads = more_turns.leads;
        come = λ more.
            told_turn T room (desk_of F h s.loading s.values) o (bs ++ more) (rest ++ more) x.command (decoded_with bs rest more x.command p.1)
            ∙ ap₂ (λ ls d. before ls (told T room d (o + (length (bs ++ more) - length (rest ++ more))) (rest ++ more))) says one.desk
            ∙ ap (λ i. before (shown (step.said x.reply)) (to_come one.history x.left (o + i) (rest ++ more))) (width_with bs rest more short)
            ∙ ap (before (shown (step.said x.reply))) (more_turns.come more)
            ∙ before_both (shown (step.said x.reply)) (printed xs) (to_come more_turns.history t ((o + w) + length rest) more)
            ∙ ap (λ i. before (shown (step.said x.reply) ++ printed xs) (to_come more_turns.history t i more)) there;
      }

  -- what is printed at the end
  over_told : (h : History) (t : State S) (o : ℕ) (rest : List ℕ) (last : List Line) → Over o rest last → to_come h t o rest ≡ before last (ended (desk_of F h t.loading t.values))
  over_told h t o [] last e = told_none T room (desk_of F h t.loading t.values) o ∙ ap (λ ls. before ls (ended (desk_of F h t.loading t.values))) (sym e)
  over_told h t o (b ∷ bs) last e =
      told_stop T room (desk_of F h t.loading t.values) o (b ∷ bs) e.0 (omega arith) e.1 ∙ ap (λ ls. before ls (ended (desk_of F h t.loading t.values))) (sym e.2)

-- some bytes of a feed, on a warehouse with the buffer's values zs
module _ {S : Type 0} (kind : store.Ghosts S) (w : Warehouse S) (zs : List ℤ) where
  -- the commands that they are, and no more
  pub passed_left : (front : List ℕ) (xs : List (Turn S)) (t : State S) → Passed kind (state w None zs) 0 front xs t
      → (F : Beginning) (h : History) → Leads F h (known kind.means w) → Left F h zs front (known kind.means t.warehouse) t.values
  passed_left front xs t p F h leads =
      let r = recounted kind F h (state w None zs) t 0 front xs leads p in
      let all = ap (told_after F h zs) (sym (append-nil front)) ∙ r.come [] ∙ ap (before (printed xs)) (told_none F.view.store.bands (capacity F.view.store) (desk_of F r.history t.loading t.values) (0 + length front)) in
      record { history = r.history; leads = r.leads; desk = sym (ap (λ x. x.desk) all) }

  -- a whole feed
  module _ (bytes : List ℕ) (lines : List Line) (t : State S) (fed : Fed kind (state w None zs) bytes lines t) (F : Beginning) (h : History) (leads : Leads F h (known kind.means w)) where
    abbrev so_far : Recounted kind F h (state w None zs) 0 fed.front (printed fed.turns) t
    so_far = recounted kind F h (state w None zs) t 0 fed.front fed.turns leads fed.passed

    all_told : told_after F h zs bytes ≡ before lines (ended (desk_of F so_far.history t.loading t.values))
    all_told =
        let last = ended (desk_of F so_far.history t.loading t.values) in
        let here : 0 + length fed.front ≡ length fed.front = omega arith in
        ap (told_after F h zs) fed.parts
        ∙ so_far.come fed.rest
        ∙ ap (λ i. before (printed fed.turns) (to_come kind F so_far.history t i fed.rest)) here
        ∙ ap (before (printed fed.turns)) (over_told kind F so_far.history t (length fed.front) fed.rest fed.last fed.over)
        ∙ before_both (printed fed.turns) fed.last last
        ∙ ap (λ ls. before ls last) (sym fed.said)

    pub fed_left : Left F h zs bytes (known kind.means t.warehouse) t.values
    fed_left = record { history = so_far.history; leads = so_far.leads; desk = sym (ap (λ x. x.desk) all_told) }

    ending_line : (l : Option OpenLoad) → shown (step.ending l) ≡ ending (load_of l)
    ending_line None = refl
    ending_line (Some l) = refl

    pub fed_told : closing lines t.loading ≡ (told_after F h zs bytes).lines
    fed_told = ap (λ ls. lines ++ ls) (ending_line t.loading) ∙ sym (ap (λ x. x.lines) all_told)
