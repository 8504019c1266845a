-- A session over a captured line, call by call.
use Rattle.std.proofs.Common.{◌≡◌, ℕ, suc, ◌≤◌, inl, inr, Bool, false, List, [], ◌∷◌, ◌++◌, length, Option, Some, None, ℤ, Ok, Err, Result, refl, sym, ◌∙◌, ap, ap₂, subst, arith, append_assoc}
use Rattle.std.specs.Prelude.{slice_get}
use Rattle.store.specs.declared.interface.Store as store
use Rattle.warehouse.specs.declared.record.Warehouse.{Warehouse}
use Rattle.wire.specs.declared.line.Line.{Line}
use Rattle.feedlaw.specs.Lines.{text}
use Rattle.console.specs.declared.ends.Sink as sink
use Rattle.console.specs.declared.fault.RunFault.{RunFault}
use Rattle.console.specs.declared.fault.RunFault.TheVariants.{Founding, Input, Output, Long}
use Rattle.linkfeed.specs.Piece.{StillGives}
use Rattle.console.specs.Running.{Begins, Whole, Stopped, WholeRun, HalfRun, closing, taken, told_on}
use Rattle.linkfeed.specs.Feeding.{Feeds}
use Rattle.linkfeed.specs.Session.{Comes, Any, FeedRun, Half, Fails, Serves, begun_lines, served}

pub same_byte : {b c : ℕ} → Some b ≡ Some c → b ≡ c
same_byte same = ap (λ byte. elim byte [ Some x ↦ x | None ↦ 0 ]) same

-- a line that gives just some bytes has no other piece
pub only_piece : (bytes others : List ℕ) → ((k : ℕ) → k ≤ length bytes → slice_get others k ≡ slice_get bytes k) → bytes ≡ others
only_piece [] [] same = refl
only_piece [] (c ∷ others) same = absurd (cc (same 0 (omega arith)))
only_piece (b ∷ bytes) [] same = absurd (cc (same 0 (omega arith)))
only_piece (b ∷ bytes) (c ∷ others) same =
    ap₂ ◌∷◌ (same_byte (sym (same 0 (omega arith)))) (only_piece bytes others (λ k few. same (suc k) (omega (arith, few))))

-- what was said of a feed's bytes may be said otherwise
module _ {S : Type 0} (kind : store.Ghosts S) (s : S) (n : ℕ) (zs : List ℤ) (t : S) (zs' : List ℤ) (gives feeds : List ℕ → Type 0) (are : (all : List ℕ) → gives all → feeds all) where
  front_of : (front : List ℕ) → Begins gives front → Begins feeds front
  front_of front (inl none) = inl none
  front_of front (inr (rest, given)) = inr (rest, are (front ++ rest) given)

  stopped_of : (w : Warehouse S) → Stopped kind (taken kind s n) zs gives w zs' → Stopped kind (taken kind s n) zs feeds w zs'
  stopped_of w p = record { front = p.front; given = front_of p.front p.given; turns = p.turns; loading = p.loading; passed = p.passed; left = p.left }

  pub half_run : HalfRun kind s n zs gives t zs' → HalfRun kind s n zs feeds t zs'
  unfolding stopped_of
  half_run h = record { warehouse = h.warehouse; closed = h.closed; stopped = stopped_of h.warehouse h.stopped; values = h.values }

  module _ (K K' : List ℕ → Type 0) where
    whole_of : (w : Warehouse S) → Whole kind (taken kind s n) zs gives K K' w zs' → Whole kind (taken kind s n) zs feeds Any Any w zs'
    whole_of w p = record { bytes = p.bytes; given = are p.bytes p.given; lines = p.lines; loading = p.loading; fed = p.fed; took = λ x was. tt; left = p.left; told = p.told }

    pub feed_run : WholeRun kind s n zs gives K K' t zs' → FeedRun kind s n zs feeds t zs'
    unfolding whole_of
    feed_run p = record { warehouse = p.warehouse; closed = p.closed; whole = whole_of p.warehouse p.whole; told = p.told; values = p.values }

  half_of : Half kind s n zs gives t zs' → Half kind s n zs feeds t zs'
  half_of (inl same) = inl same
  half_of (inr (inl h)) = inr (inl (half_run h))
  half_of (inr (inr p)) = inr (inr (feed_run Any Any p))

  pub fails_of : {I D : Type 0} (stuck : Type 0) (e : RunFault I D) → Fails kind s n zs gives stuck e t zs' → Fails kind s n zs feeds stuck e t zs'
  fails_of stuck (Founding e) ((bytes, given), surveys, store, values) = ((bytes, are bytes given), surveys, store, values)
  fails_of stuck (Output e) (is, h) = (is, half_of h)
  fails_of stuck Long ((bytes, given, long), h) = ((bytes, are bytes given, long), half_run h)
  fails_of stuck (Input e) fails = absurd fails

-- by what the line captured, what a feed from it may give is just that
module _ (bytes : List ℕ) (over : Bool) (gives : ℕ → Option ℕ) (fresh : over ≡ false) (here : (k : ℕ) → gives k ≡ slice_get bytes k) where
  given_all : (all : List ℕ) → StillGives over gives all → all ≡ bytes
  given_all all given =
      let piece = subst (λ over. StillGives over gives all) fresh given in
      only_piece all bytes (λ k few. sym (here k) ∙ piece k few)

  module _ {S O D : Type 0} (kind : store.Ghosts S) (s : S) (n : ℕ) (zs : List ℤ) (to : sink.Ghosts O D) (k k₂ k' : O) (t : S) (zs' : List ℤ) (begun : (w : List ℕ) → to.took k w → to.took k₂ (w ++ begun_lines)) where
    fed_all : WholeRun kind s n zs (StillGives over gives) (to.took k₂) (to.took k') t zs' → FeedRun kind s n zs (λ all. all ≡ bytes) t zs' × Comes (to.took k) (to.took k') zs' (served (kind.means s).bands (kind.means s).room n zs bytes)
    fed_all fed =
        let all = given_all fed.whole.bytes fed.whole.given in
        let lines : closing fed.whole.lines fed.whole.loading ≡ (told_on kind s n zs bytes).lines = fed.told ∙ ap (λ (bs : List ℕ). (told_on kind s n zs bs).lines) all in (
          feed_run kind s n zs t zs' _ _ given_all (to.took k₂) (to.took k') fed,
          record {
            took = λ w was. subst (to.took k') (append_assoc w begun_lines _) (subst (λ (ls : List Line). to.took k' (w ++ begun_lines ++ text ls)) lines (fed.whole.took (w ++ begun_lines) (begun w was)));
            values = fed.values ∙ ap (λ (bs : List ℕ). (told_on kind s n zs bs).desk.values) all;
          },
        )

    pub serves : {I : Type 0} (unpolled : Type 0) (r : Result Unit (RunFault I D)) → Feeds kind s n zs (StillGives over gives) unpolled to k₂ k' r t zs' → Serves kind s n zs bytes to k k' r t zs'
    serves unpolled (Ok _) (fed, handed) = fed_all fed
    serves unpolled (Err (Founding e)) (surveys, store, left, same, values) = ((bytes, refl), surveys, store, values)
    serves unpolled (Err (Output e)) (stuck, h) = (stuck, inr (inl (half_run kind s n zs t zs' _ _ given_all h)))
    serves unpolled (Err Long) ((all, given, long), h) = ((all, given_all all given, long), half_run kind s n zs t zs' _ _ given_all h)
    serves unpolled (Err (Input e)) fed = absurd fed

-- words after words
pub then : (K K₁ K₂ : List ℕ → Type 0) (first second : List ℕ) → ((w : List ℕ) → K w → K₁ (w ++ first)) → ((w : List ℕ) → K₁ w → K₂ (w ++ second)) → (w : List ℕ) → K w → K₂ (w ++ (first ++ second))
then K K₁ K₂ first second one two w was = subst K₂ (append_assoc w first second) (two (w ++ first) (one w was))
