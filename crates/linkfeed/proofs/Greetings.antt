-- A session from its first poll on, and a whole one.
use Rattle.std.proofs.Common.{◌≡◌, ◌≢◌, ℕ, zero, suc, ◌⊎◌, inl, inr, List, [], ◌∷◌, ◌++◌, None, ℤ, Ok, Err, Result, refl, sym, ◌∙◌, ap, subst, arith}
use Rattle.std.specs.Prelude.{slice_get, nat_eq}
use Rattle.std.proofs.lemmas.Bool.{cond-true, cond-false}
use Rattle.std.proofs.lemmas.Bool.Decides.{eqb_tells}
use Rattle.store.specs.declared.interface.Store as store
use Rattle.link.specs.declared.fault.Fault.{Fault}
use Rattle.link.specs.declared.fault.Fault.TheVariants.{NoMotor, Line}
use Rattle.link.specs.Meaning.{Waiting, IsMoved, meaning_of}
use Rattle.link.specs.Waiting.{FirstByte, ReadyAt, FailsAt, ready_byte}
use Rattle.console.specs.declared.ends.Sink as sink
use Rattle.console.specs.declared.fault.RunFault.{RunFault}
use Rattle.console.specs.declared.fault.RunFault.TheVariants.{Output}
use Rattle.linkfeed.specs.Session.{Outcome, Comes, Any, Half, HasFeed, Says, Hands, Serves, Greeted, Greets, Plays, refused, served, greeted_on, refused_line, welcome_line}
use Rattle.linkfeed.proofs.Sessions.{same_byte, only_piece, feed_run, fails_of, then}

-- a captured line's first byte comes at its first poll
first_byte : (captured : List ℕ) (n b : ℕ) → FirstByte (slice_get captured) n b → (rest : List ℕ) × (captured ≡ b ∷ rest) × (n ≡ 0)
first_byte [] n b first = absurd (cc first.came)
first_byte (c ∷ rest) zero b first = (rest, ap (λ x. x ∷ rest) (same_byte first.came), refl)
first_byte (c ∷ rest) (suc n) b first = absurd (cc (first.before 0 (omega arith)))

nothing_captured : (captured : List ℕ) → slice_get captured 0 ≡ None → captured ≡ []
nothing_captured [] none = refl
nothing_captured (c ∷ rest) none = absurd (cc none)

first_of : List ℕ → ℕ
first_of [] = 0
first_of (b ∷ bytes) = b

same_first : {b c : ℕ} {bytes others : List ℕ} → b ∷ bytes ≡ c ∷ others → b ≡ c
unfolding first_of
same_first same = ap first_of same

module _ {S : Type 0} (kind : store.Ghosts S) (s : S) (n : ℕ) (zs : List ℤ) where
  greeted_by : (b : ℕ) (bytes : List ℕ) → ((b ≡ ready_byte) × (greeted_on kind s n zs (b ∷ bytes) ≡ served (kind.means s).bands (kind.means s).room n zs bytes)) ⊎ ((b ≢ ready_byte) × (greeted_on kind s n zs (b ∷ bytes) ≡ refused Line zs))
  greeted_by b bytes = elim (eqb_tells b ready_byte) [
    | inl (is, same) ↦ inl (same, cond-true (nat_eq b ready_byte) _ _ is)
    | inr (is, differs) ↦ inr (differs, cond-false (nat_eq b ready_byte) _ _ is)
  ]

  greeted_ready : (rest : List ℕ) → greeted_on kind s n zs (ready_byte ∷ rest) ≡ served (kind.means s).bands (kind.means s).room n zs rest
  greeted_ready rest = refl

  -- a refusal is what the captured bytes come to
  pub refusal : (captured : List ℕ) (p : ℕ) (f : Fault) → FailsAt (slice_get captured) p f → (greeted_on kind s n zs captured ≡ refused f zs) × ((bytes : List ℕ) → HasFeed captured bytes → ⊥)
  refusal captured p NoMotor (polls, none) =
      let is = nothing_captured captured (none 0 (omega arith)) in
      (ap (greeted_on kind s n zs) is, λ bytes feed. cc (sym is ∙ feed))
  refusal captured p Line (polls, (b, differs, first)) =
      let (rest, is, at) = first_byte captured p b first in
      let by : greeted_on kind s n zs (b ∷ rest) ≡ refused Line zs = elim (greeted_by b rest) [ inl (same, _) ↦ absurd (differs same) | inr (_, so) ↦ so ] in
      (ap (greeted_on kind s n zs) is ∙ by, λ bytes feed. differs (same_first (sym is ∙ feed)))

  ready_first : (rest all : List ℕ) → all ≡ rest → HasFeed (ready_byte ∷ rest) all
  ready_first rest all is = ap (λ (bs : List ℕ). ready_byte ∷ bs) (sym is)

  module _ {I O D : Type 0} (to : sink.Ghosts O D) (k k' : O) (t : S) (zs' : List ℤ) where
    by_rest : (rest : List ℕ) (r : Result Unit (RunFault I D)) → Serves kind s n zs rest to k k' r t zs' → Greets kind s n zs (ready_byte ∷ rest) to k k' r t zs'
    by_rest rest (Ok _) (run, comes) =
        record {
          fed = λ bytes is. feed_run kind s n zs t zs' _ _ (ready_first rest) Any Any run;
          unfed = λ none. absurd (none rest refl);
          comes = comes;
        }
    by_rest rest (Err e) fails = fails_of kind s n zs t zs' _ _ (ready_first rest) (to.stuck k') e fails

    pub greets_ready : (line line' : Waiting) (p : ℕ) → ReadyAt (slice_get line.bytes) p → IsMoved (suc p) (meaning_of line) (meaning_of line') → (r : Result Unit (RunFault I D)) → Serves kind s n zs line'.bytes to k k' r t zs' → Greets kind s n zs line.bytes to k k' r t zs'
    greets_ready line line' p ready moved r serves =
        let (rest, is, at) = first_byte line.bytes p ready_byte ready.1 in
        let left = only_piece line'.bytes rest (λ k few. sym (moved.onward k ∙ ap (slice_get line.bytes) (omega (arith, at)) ∙ ap (λ (xs : List ℕ). slice_get xs (suc k)) is)) in
        subst (λ captured. Greets kind s n zs captured to k k' r t zs') (sym is) (by_rest rest r (subst (λ bytes. Serves kind s n zs bytes to k k' r t zs') left serves))

    pub greets_refused : (captured : List ℕ) (p : ℕ) (f : Fault) → FailsAt (slice_get captured) p f → t ≡ s → zs' ≡ zs → (r : Result Unit (RunFault I D)) → Says (to.took k) (to.took k') (to.stuck k') (refused_line f) r → Greets kind s n zs captured to k k' r t zs'
    greets_refused captured p f fails store same (Ok _) says =
        let (outcome, no_feed) = refusal captured p f fails in
        record {
          fed = λ bytes is. absurd (no_feed bytes is);
          unfed = λ none. store;
          comes = subst (Comes (to.took k) (to.took k') zs') (sym outcome) (record { took = says; values = same });
        }
    greets_refused captured p f fails store same (Err (Output e)) says = (says, inl (store, same))
    greets_refused captured p f fails store same (Err e) says = absurd says

  -- where the sink is stuck at the end, all commands were obeyed
  pub all_obeyed : (captured : List ℕ) (K K' : List ℕ → Type 0) (t : S) (zs' : List ℤ) → Greeted kind s n zs captured K K' t zs' (greeted_on kind s n zs captured) → Half kind s n zs (HasFeed captured) t zs'
  all_obeyed [] K K' t zs' went = inl (went.unfed (λ bytes is. cc is), went.comes.values)
  all_obeyed (b ∷ bytes) K K' t zs' went = elim (greeted_by b bytes) [
    | inr (differs, is) ↦ inl (went.unfed (λ others feed. differs (same_first feed)), went.comes.values ∙ ap (λ (o : Outcome). o.values) is)
    | inl (same, is) ↦ inr (inr (went.fed bytes (ap (λ c. c ∷ bytes) same)))
  ]

  module _ {O D : Type 0} (captured : List ℕ) (to : sink.Ghosts O D) (k k₁ k₂ : O) (t : S) (zs' : List ℤ) (welcomed : (w : List ℕ) → to.took k w → to.took k₁ (w ++ welcome_line)) (went : Greeted kind s n zs captured (to.took k₁) (to.took k₂) t zs' (greeted_on kind s n zs captured)) where
    pub stuck_at_end : (k' : O) → to.stuck k' → to.stuck k' × Half kind s n zs (HasFeed captured) t zs'
    stuck_at_end k' stuck = (stuck, all_obeyed captured (to.took k₁) (to.took k₂) t zs' went)

    pub plays : {I : Type 0} (k₃ k' : O) → ((w : List ℕ) → to.took k₂ w → to.took k₃ (w ++ welcome_line)) → (r : Result Unit (RunFault I D)) → Hands (to.took k₃) (to.took k') (to.handed k') (to.stuck k') r → Plays kind s n zs captured to k k' r t zs'
    plays k₃ k' ended (Ok _) (kept, handed) =
        let o = greeted_on kind s n zs captured in
        let shown = then (to.took k₁) (to.took k₂) (to.took k₃) o.shown welcome_line went.comes.took ended in (
          record {
            fed = went.fed;
            unfed = went.unfed;
            comes = record { took = λ w was. kept _ (then (to.took k) (to.took k₁) (to.took k₃) welcome_line (o.shown ++ welcome_line) welcomed shown w was); values = went.comes.values };
          },
          handed,
        )
    plays k₃ k' ended (Err (Output e)) stuck = stuck_at_end k' stuck
    plays k₃ k' ended (Err e) hands = absurd hands
