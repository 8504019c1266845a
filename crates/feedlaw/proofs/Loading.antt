-- The commands of an open load, by the checks and by the calls' contracts.
use Rattle.std.proofs.Common.{◌≡◌, ℕ, ◌+◌, ◌^◌, Bool, true, false, not, ltb, leb, List, [], ◌∷◌, length, set, ℤ, Some, None, Ok, Err, Option, Result, sym, refl, ap, ◌∙◌}
use Rattle.std.proofs.lemmas.Bool.{ltb-true, ltb-false, leb-true, leb-false, not-true, not-false, true≢false}
use Rattle.warehouse.specs.declared.fault.Asked.{Asked}
use Rattle.warehouse.specs.declared.fault.Fault.{Fault}
use Rattle.warehouse.specs.declared.fault.Fault.TheVariants.{Level, Buffer, Domain, Over}
use Rattle.warehouse.specs.declared.fault.Refusal.{Refusal}
use Rattle.warehouse.specs.Faults.{fault_number}
use Rattle.warehouse.specs.Grading.{inside}
use Rattle.warehouse.specs.View.{View}
use Rattle.loads.specs.declared.open.OpenLoad.{OpenLoad}
use Rattle.loads.specs.declared.open.RefusedLoad.{RefusedLoad}
use Rattle.loads.specs.Opening.{IsOpen, refusing, HandedBack, Begins, Takes, Finishes}
use Rattle.wire.specs.declared.line.Line.TheVariants as line
use Rattle.feed.specs.Step.{told, silent, begun, filled, finished, after, on}
use Rattle.agreement.specs.Call.{wrote}
use Rattle.agreement.specs.Check.{check, first}
use Rattle.agreement.specs.Reply.{or_refused, finish_reply}
use Rattle.agreement.proofs.Checks.{lies_inside, inside_lies}
use Rattle.feedlaw.specs.Turns.{closed, opened, checked, unless, begin_checks, value_checks}
use Rattle.feedlaw.specs.Law.{load_of}

-- two checks in their order: the first that finds a fault decides
pub one_check : (P : Option Fault → Type 0) (f : Fault) (a : Bool) → (a ≡ true → P (Some f)) → (a ≡ false → P None) → P (first (check a f ∷ []))
one_check P f true p q = p refl
one_check P f false p q = q refl

module _ (P : Option Fault → Type 0) (f g : Fault) where
  pub two_checks : (a b : Bool) → (a ≡ true → P (Some f)) → (a ≡ false → b ≡ true → P (Some g)) → (a ≡ false → b ≡ false → P None) → P (first (check a f ∷ check b g ∷ []))
  two_checks true b p q r = p refl
  two_checks false true p q r = q refl refl
  two_checks false false p q r = r refl refl

module _ (o w : ℕ) where
  -- what a beginning comes to where the checks find f
  pub record Opens (m p : ℕ) (q : Result OpenLoad Refusal) (f : Option Fault) : Type 0 where
    pub load : unless f (opened m p 0) closed ≡ load_of (begun q)
    pub line : after (told (λ _. line.Begun) o q) w ≡ on (checked f o (Some line.Begun)) w

  opens_none : (m p : ℕ) (f : Fault) (q : Result OpenLoad Refusal) → q ≡ Err (refusing f m p) → Opens m p q (Some f)
  opens_none m p f q e = record { load = ap (λ x. load_of (begun x)) (sym e); line = ap (λ x. after (told (λ _. line.Begun) o x) w) e }

  opens_one : (m p : ℕ) (q : Result OpenLoad Refusal) → IsOpen q m p 0 → Opens m p q None
  opens_one m p (Ok l) e = record { load = cc (e.level, e.index, e.taken); line = refl }
  opens_one m p (Err x) e = absurd e

  pub begins : (n m p : ℕ) (q : Result OpenLoad Refusal) → Begins n m p q → Opens m p q (begin_checks n m p)
  begins n m p q b =
      two_checks (Opens m p q) Level Domain (ltb 12 m) (not (inside n m p))
      (λ over. opens_none m p Level q (b.level (ltb-true 12 m over)))
      (λ low out. opens_none m p Domain q (b.domain (ltb-false 12 m low) (λ l. true≢false (sym (inside_lies n m p l) ∙ not-true (inside n m p) out))))
      (λ low yes. opens_one m p q (b.begun (ltb-false 12 m low) (lies_inside n m p (not-false (inside n m p) yes))))

  -- what a value comes to where the checks find f
  pub record Fills (a : OpenLoad) (x : ℤ) (zs : List ℤ) (q : Result OpenLoad RefusedLoad) (zs' : List ℤ) (f : Option Fault) : Type 0 where
    pub load : unless f (opened a.level a.index (a.taken + 1)) (opened a.level a.index a.taken) ≡ load_of (filled q)
    pub values : unless f (set zs a.taken x) zs ≡ zs'
    pub line : after (silent o q) w ≡ on (checked f o None) w

  fills_none : (a : OpenLoad) (x : ℤ) (zs zs' : List ℤ) (f : Fault) (q : Result OpenLoad RefusedLoad) → HandedBack a f q × (zs' ≡ zs) → Fills a x zs q zs' (Some f)
  fills_none a x zs zs' f (Ok l) e = absurd e.0
  fills_none a x zs zs' f (Err r) e =
      record {
        load = ap (λ (l : OpenLoad). opened l.level l.index l.taken) (sym e.0.load);
        values = sym e.1;
        line = ap (λ (y : Refusal). on (Some (line.Refused (fault_number y.fault) o)) w) e.0.refusal;
      }

  fills_one : (a : OpenLoad) (x : ℤ) (zs zs' : List ℤ) (q : Result OpenLoad RefusedLoad) → IsOpen q a.level a.index (a.taken + 1) × (zs' ≡ set zs a.taken x) → Fills a x zs q zs' None
  fills_one a x zs zs' (Ok l) e = record { load = cc (e.0.level, e.0.index, e.0.taken); values = sym e.1; line = refl }
  fills_one a x zs zs' (Err r) e = absurd e.0

  pub fills : (a : OpenLoad) (x : ℤ) (zs zs' : List ℤ) (q : Result OpenLoad RefusedLoad) → Takes a x zs q zs' → Fills a x zs q zs' (value_checks a.level a.taken zs)
  fills a x zs zs' q t =
      two_checks (Fills a x zs q zs') Over Buffer (leb (2 ^ a.level) a.taken) (leb (length zs) a.taken)
      (λ full. fills_none a x zs zs' Over q (t.over (leb-true _ _ full)))
      (λ room short. fills_none a x zs zs' Buffer q (t.buffer (leb-false _ _ room) (leb-true _ _ short)))
      (λ room long. fills_one a x zs zs' q (t.taken (leb-false _ _ room) (leb-false _ _ long)))

  -- a finish that the checks refuse keeps the load
  pub finishes_load : (a : OpenLoad) (q : Result ℕ RefusedLoad) (f : Option Fault) (asked : Asked) (n : ℕ) → (v v' : View) (zs : List ℤ) → Finishes a v zs q v' → finish_reply q ≡ or_refused f asked (wrote n)
      → unless f closed (opened a.level a.index a.taken) ≡ load_of (finished q)
  finishes_load a (Ok k) None asked n v v' zs s e = refl
  finishes_load a (Ok k) (Some f) asked n v v' zs s e = cc
  finishes_load a (Err r) None asked n v v' zs s e = cc
  finishes_load a (Err r) (Some f) asked n v v' zs s e = ap (λ (l : OpenLoad). opened l.level l.index l.taken) (sym s.0.load)
