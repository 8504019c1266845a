-- What the contract of each call says of it, as a call of the list.
use Rattle.std.proofs.Common.{◌≡◌, ℕ, ◌+◌, ◌^◌, ◌<◌, ◌≤◌, min, true, false, leb, List, length, set, get_or, ℤ, pos, Ok, Err, Result, sym, refl, ap, ◌∙◌, ap₂, subst, ⊎_elim, arith}
use Rattle.std.proofs.lemmas.Bool.{cases_lt, cases_Bool, leb-true, le-leb, and_parts, and_from}
use Rattle.std.proofs.lemmas.List.{set-get_or}
use Rattle.store.specs.Meaning.{Meaning}
use Rattle.warehouse.specs.declared.fault.Refusal.{Refusal}
use Rattle.warehouse.specs.declared.record.Warehouse.{Warehouse}
use Rattle.warehouse.specs.Grading.{inside}
use Rattle.warehouse.specs.View.{View, known}
use Rattle.loads.specs.declared.open.OpenLoad.{OpenLoad}
use Rattle.loads.specs.declared.open.RefusedLoad.{RefusedLoad}
use Rattle.loads.specs.Addition.{Lies}
use Rattle.loads.specs.Opening.{Open, Begins, Takes, Finishes}
use Rattle.agreement.specs.Call as history
use Rattle.agreement.specs.History.{History, more}
use Rattle.agreement.specs.Reply.{finish_reply}
use Rattle.agreement.specs.Step.{Step}
use Rattle.agreement.specs.Steps.{Fits}
use Rattle.agreement.proofs.Calls.{steps}
use Rattle.agreement.proofs.Checks.{lies_inside, inside_lies}
use Rattle.compare.specs.Playing.{loaded, is_begun, Does, Makes}

pub fits : {S : Type 0} (means : S → Meaning) (w : Warehouse S) → Fits (known means w)
fits means w = omega arith

-- a value that the buffer holds already
pub given : (l next : OpenLoad) (x : ℤ) (zs zs' : List ℤ) (place : ℕ) → l.taken ≡ place → place < length zs → x ≡ get_or zs place (pos 0) → Takes l x zs (Ok next) zs'
    → (zs' ≡ zs) × Open next l.level l.index (place + 1)
given l next x zs zs' place at inside same t =
    ⊎_elim
    (λ (room : l.taken < 2 ^ l.level).
    let u = t.taken room (omega (arith, at)) in (
      u.1 ∙ ap₂ (λ k y. set zs k y) at same ∙ set-get_or zs place (pos 0),
      record { level = u.0.level; index = u.0.index; taken = u.0.taken ∙ ap (λ k. k + 1) at },
    ))
    (λ (full : 2 ^ l.level ≤ l.taken). absurd (t.over full).0)
    (cases_lt l.taken (2 ^ l.level))

module _ (n m p : ℕ) where
  begun_false : (e : Refusal) → Begins n m p (Err e) → is_begun n m p ≡ false
  begun_false e b =
      ⊎_elim
      (λ (yes : is_begun n m p ≡ true).
      let u = and_parts (leb m 12) (inside n m p) yes in
      absurd (b.begun (leb-true _ _ u.0) (lies_inside n m p u.1)))
      (λ (no : is_begun n m p ≡ false). no)
      (cases_Bool (is_begun n m p))

  begun_true : (l : OpenLoad) → Begins n m p (Ok l) → (is_begun n m p ≡ true) × Open l m p 0
  begun_true l b =
      ⊎_elim
      (λ (over : 12 < m). absurd (let q = b.level over in cc))
      (λ (low : m ≤ 12).
      ⊎_elim
      (λ (yes : inside n m p ≡ true). (and_from (leb m 12) (inside n m p) (le-leb _ _ low) yes, b.begun low (lies_inside n m p yes)))
      (λ (no : inside n m p ≡ false). absurd (let q = b.domain low (λ (h : Lies n m p). let y = sym no ∙ inside_lies n m p h in cc) in cc))
      (cases_Bool (inside n m p)))
      (cases_lt 12 m)

-- a load that cannot be begun
pub not_begun : (v : View) (m p : ℕ) (zs : List ℤ) (h : History) (e : Refusal) → Begins v.size m p (Err e) → Makes (is_begun v.size m p) v (loaded m p zs) h v
not_begun v m p zs h e b = (h, subst (λ t. Does t v (loaded m p zs) h v h) (sym (begun_false v.size m p e b)) (refl, refl))

pub made : (v w : View) (call : history.Call) (answer : history.Answer) (h : History) → Step v call answer w → Makes true v call h w
made v w call answer h s = (more h call answer, (answer, s, refl))

-- one that was begun, filled and finished
pub load_made : (v w : View) (m p : ℕ) (zs zs' : List ℤ) (first l : OpenLoad) (r : Result ℕ RefusedLoad) (h : History) → Fits v → Begins v.size m p (Ok first) → zs' ≡ zs
    → Open l first.level first.index (min (2 ^ first.level) (length zs)) → Finishes l v zs' r w → Makes (is_begun v.size m p) v (loaded m p zs) h w
load_made v w m p zs zs' first l r h fit b kept o f =
    let begun = begun_true v.size m p first b in
    let level : l.level ≡ m = o.level ∙ begun.1.level in
    let index : l.index ≡ p = o.index ∙ begun.1.index in
    let taken : l.taken ≡ min (2 ^ m) (length zs) = o.taken ∙ ap (λ j. min (2 ^ j) (length zs)) begun.1.level in
    let same : history.load l.level l.index l.taken zs' ≡ loaded m p zs =
    ap₂ (λ j i. history.load j i l.taken zs') level index ∙ ap₂ (λ k ys. history.load m p k ys) taken kept in
    let s = steps.load v w l zs' r fit f in
    subst (λ t. Makes t v (loaded m p zs) h w) (sym begun.0) (made v w (loaded m p zs) (finish_reply r) h (subst (λ c. Step v c (finish_reply r) w) same s))
