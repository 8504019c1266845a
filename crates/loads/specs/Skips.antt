-- A load under way goes on past cells of which none is touched.
use Rattle.std.specs.Prelude.{◌≡◌, ℕ, zero, suc, ◌<◌, ◌≤◌, List, ℤ}
use Rattle.std.proofs.Common.{ap, ◌∙◌, ⊎_elim, arith}
use Rattle.std.proofs.lemmas.Bool.{cases_lt}
use Rattle.std.specs.List.{All}
use Rattle.std.proofs.lemmas.List.Elements.{All-weaker}
use Rattle.haar.specs.Tiles.{cell_number, cell_count}
use Rattle.haar.specs.Load.{Loaded}
use Rattle.store.specs.declared.entry.Entry.{Entry}
use Rattle.store.specs.Meaning.{Meaning, weight}
use Rattle.store.specs.Writing.{Putting}
use Rattle.loads.specs.declared.reach.Reach.{Reach}
use Rattle.loads.specs.Reach.{at_reach, Gap}
use Rattle.loads.specs.Loads.{fresh}
use Rattle.loads.specs.Passes.{Seen, Partly}
use Rattle.loads.specs.Writes.{Adding, Wrote, Underway}

-- cells that stay as they are start nothing
pub fresh_gap : (x y : ℕ → ℤ) (from to : ℕ) → from ≤ to → ((c : ℕ) → from ≤ c → c < to → y c ≡ x c) → fresh x y to ≡ fresh x y from
unfolding fresh
fresh_gap x y from zero h e = let z : 0 ≡ from = omega arith in ap (fresh x y) z
fresh_gap x y from (suc to) h e =
    ⊎_elim
    (λ (lt : to < from). let z : suc to ≡ from = omega arith in ap (fresh x y) z)
    (λ (le : from ≤ to).
    let i = fresh_gap x y from to le (λ c a b. e c a (omega arith)) in
    let u = ap weight (e to le (omega arith)) in
    omega arith)
    (cases_lt to from)

pub fresh_skip : (T n m p : ℕ) (g x y : ℕ → ℤ) → Loaded T n m p g x y → (from to : ℕ) → from ≤ to → to ≤ cell_count T → Gap T n m p from to → fresh x y to ≡ fresh x y from
fresh_skip T n m p g x y load from to le h none =
    fresh_gap x y from to le (λ c a b. load.kept c (omega arith) (λ s i t e. none s (record { inside = i; touched = t }) (omega arith) (omega arith)))

pub seen_skip : (T n m p : ℕ) (g x : ℕ → ℤ) (from k : ℕ) → Seen T n m p g x from k → (to : ℕ) → from ≤ to → to ≤ cell_count T → Gap T n m p from to → Seen T n m p g x to k
seen_skip T n m p g x from k seen to le h none =
    record {
      below = h;
      few = omega (arith, seen.few);
      clear = λ s me l. ⊎_elim (λ lt. seen.clear s me lt) (λ ge. absurd (none s me ge l)) (cases_lt (cell_number T s) from);
      starts = λ y load. fresh_skip T n m p g x y load from to le h none ∙ seen.starts y load;
    }

pub partly_skip : (T n m p : ℕ) (g : ℕ → ℤ) (before now : Meaning) (from : ℕ) → Partly T n m p g before now from → (to : ℕ) → from ≤ to → to ≤ cell_count T → Gap T n m p from to → Partly T n m p g before now to
partly_skip T n m p g before now from part to le h none =
    record {
      bands = part.bands;
      below = h;
      small = part.small;
      after = part.after;
      load = part.load;
      fits = part.fits;
      added = λ s me l. ⊎_elim (λ lt. part.added s me lt) (λ ge. absurd (none s me ge l)) (cases_lt (cell_number T s) from);
      kept = λ c l no_one. part.kept c l (λ s me q a. no_one s me q (omega arith));
      room = part.room;
      left = rw (fresh_skip T n m p g before.cells part.after part.load from to le h none) part.left;
    }

pub adding_later : (T n m p : ℕ) (g x : ℕ → ℤ) (from to : ℕ) → from ≤ to → (ws : List Entry)
    → All (Adding T n m p g x from) ws → All (Adding T n m p g x to) ws
adding_later T n m p g x from to le ws each =
    All-weaker (Adding T n m p g x from) (Adding T n m p g x to)
    (λ w a. record { below = omega (arith, a.below); share = a.share; takes = a.takes; number = a.number })
    ws each

pub wrote_skip : {S : Type 0} (puts : Putting S) (T n m p : ℕ) (g x : ℕ → ℤ) (s t : S) (from : ℕ)
    → Wrote puts T n m p g x s t from → (to : ℕ) → from ≤ to → Gap T n m p from to → Wrote puts T n m p g x s t to
wrote_skip puts T n m p g x s t from wrote to le none =
    let k = wrote.touching in
    record {
      writes = wrote.writes;
      touching = record {
        rising = k.rising;
        each = adding_later T n m p g x from to le wrote.writes k.each;
        every = λ c me l.
            ⊎_elim (λ lt. k.every c me lt) (λ ge. absurd (none c me ge l)) (cases_lt (cell_number T c) from);
      };
      written = wrote.written;
    }

pub underway_skip : {S : Type 0} (r : Reach) (g : ℕ → ℤ) (means : S → Meaning) (puts : Putting S) (s t : S) (from : ℕ)
    → at_reach r (Underway means puts) g s t from → (to : ℕ) → from ≤ to → to ≤ cell_count r.bands → at_reach r Gap from to
    → at_reach r (Underway means puts) g s t to
underway_skip r g means puts s t from way to le h none = (
  partly_skip r.bands r.size r.level r.index g _ _ from way.0 to le h none,
  wrote_skip puts r.bands r.size r.level r.index g _ s t from way.1 to le none,
)
