-- Every history leaves an indexed warehouse sound.
use Rattle.std.proofs.Common.{◌≡◌, ℕ, ◌-◌, ◌*◌, ◌^◌, ◌<◌, ◌≤◌, [], ◌∷◌, nat_abs, Some, None, Ok, Option, sym, refl, ap, ◌∙◌, subst, arith}
use Rattle.std.proofs.lemmas.Int.{ints}
use Rattle.haar.specs.Tiles.{cell_count}
use Rattle.store.specs.Meaning.{filled}
use Rattle.store.proofs.Counting.{filled_same}
use Rattle.warehouse.specs.declared.fault.Asked.TheVariants.{Minutes}
use Rattle.warehouse.specs.declared.fault.Fault.{Fault}
use Rattle.warehouse.specs.Faults.{refused}
use Rattle.warehouse.specs.Read.{look, read, limit}
use Rattle.warehouse.proofs.Descents.{read_small}
use Rattle.warehouse.proofs.Halves.{Small}
use Rattle.agreement.specs.Call.{Call, load, add, grow, settle, point, sum, mean, trend, Answer, gave, repeats, fault_of}
use Rattle.agreement.specs.Check.{first, or, fault_in}
use Rattle.agreement.specs.Reply.{or_refused, reading_reply}
use Rattle.agreement.specs.Reply as replies
use Rattle.agreement.specs.Share.{chunk_values}
use Rattle.agreement.specs.History.{Tally, enter, enter_if}
use Rattle.agreement.specs.History as plain-history
use Rattle.agreement.specs.Agreement as agreement
use Rattle.agreement.proofs.Agreement.{seen, recount_refusal, recount_reply, next_right, sound_kept}
use Rattle.agreement.proofs.Cells.{same_look, look_below}
use Rattle.agreement.proofs.Checks.{or_none}
use Rattle.agreement.proofs.Keeping.{same_keeps, changes_keep}
use Rattle.agreement.proofs.Replies.{reading_fault, refused_as}
use Rattle.agreement.proofs.Steps.{accepted}
use Rattle.indexed.specs.Largest.{largest, tile_largest}
use Rattle.indexed.specs.Piles.{Piles}
use Rattle.indexed.specs.Piles as piles
use Rattle.indexed.specs.Writing.{load_change, growth_change, index_checks, index_refusal}
use Rattle.indexed.specs.Busiest.{busiest_cells, busiest_reading, busiest_answer}
use Rattle.indexed.specs.Step.{IndexedCall, plain, busiest, refusal, reply, Unchanged, ChangesBy, Step}
use Rattle.indexed.specs.History.{Beginning, piles_at, History, new, more, Leads, begun, went, tally, recount}
use Rattle.indexed.specs.History as history
use Rattle.indexed.specs.Sound.{Right, AllRight, SoundHolds}
use Rattle.indexed.proofs.Keeping.{Keeps, begins_keeps, same_index, index_keeps, point_read}
use Rattle.indexed.proofs.Tiles.{tile_below}
use Rattle.indexed.proofs.Walks.{busiest_read}
use Rattle.indexed.proofs.Able.{able}

module _ (origin : Piles) (t : Tally) (v : Piles) (k : Keeps origin t v) where
  -- the recount's index is read as this one is
  recounted : (c : ℕ) → c < cell_count v.index.bands → v.index.cells c ≡ tile_largest t.size t.minutes c
  recounted c h = k.cells c h ∙ ap (λ n. tile_largest n t.minutes c) k.first.size

  same_room : v.index.room ≡ (recount origin t).index.room
  same_room =
      let e : filled v.index.cells (cell_count v.index.bands) ≡ filled (tile_largest t.size t.minutes) (cell_count origin.index.bands) =
      filled_same (tile_largest t.size t.minutes) v.index.cells (cell_count v.index.bands) recounted
      ∙ ap (λ T. filled (tile_largest t.size t.minutes) (cell_count T)) k.bands in
      omega (arith, ints, k.room)

  index_seen : look v.index ≡ look (recount origin t).index
  index_seen = same_look v.index (recount origin t).index k.bands recounted

  points_seen : piles.point v.first ≡ piles.point (recount origin t).first
  points_seen = λ j i. read (k.first.bands j) (k.first.size j) (seen origin.first.store t v.first k.first j) 0 i

  -- the checks and the definitions find on these piles what they find on the recount
  index_refused : (call : Call) → index_refusal v call ≡ index_refusal (recount origin t) call
  unfolding index_refusal
  index_refused (load m p taken buffer) = λ j. first (index_checks (k.first.size j) (points_seen j) (same_room j) (index_seen j) (load_change (k.first.size j) m p (chunk_values m buffer)))
  index_refused (add i x) = λ j. first (index_checks (k.first.size j) (points_seen j) (same_room j) (index_seen j) (load_change (k.first.size j) 0 i (x ∷ [])))
  index_refused grow = λ j. first (index_checks (k.first.size j) (points_seen j) (same_room j) (index_seen j) (growth_change (k.first.size j)))
  index_refused settle = refl
  index_refused (point i) = refl
  index_refused (sum a b) = refl
  index_refused (mean a b) = refl
  index_refused (trend a i) = refl

  busiest_answered : (a b : ℕ) → busiest_answer v a b ≡ busiest_answer (recount origin t) a b
  unfolding busiest_answer
  busiest_answered a b = λ j. refused (Minutes a b) (busiest_reading (k.first.size j) (points_seen j) (index_seen j) a b)

  refused_alike : (call : IndexedCall) → refusal v call ≡ refusal (recount origin t) call
  refused_alike (plain call) = λ j. or (recount_refusal origin.first.store t v.first k.first call j) (index_refused call j)
  refused_alike (busiest a b) = ap fault_in (busiest_answered a b)

  replied_alike : (call : IndexedCall) → reply v call ≡ reply (recount origin t) call
  replied_alike (plain call) = λ j. or_refused (refused_alike (plain call) j) (repeats (k.first.size j) call) (recount_reply origin.first.store t v.first k.first call j)
  replied_alike (busiest a b) = ap reading_reply (busiest_answered a b)

  -- the busiest minute is the tally's
  minute_small : (i : ℕ) → i < 2 ^ v.first.size → nat_abs (t.minutes i) ≤ limit
  minute_small i h = subst Small (point_read origin t v k i h) (read_small v.first.store.bands v.first.size (look v.first.store) 0 i)

  tile_read : (c : ℕ) → 16 * c < 2 ^ v.first.size → look v.index c ≡ Ok (tile_largest v.first.size t.minutes c)
  tile_read c h =
      let b = tile_below v.index.bands v.first.size c (omega (arith, k.bands, k.alike, k.first.bands, k.first.some)) (omega (arith, k.bands, k.alike, k.first.bands, k.first.fits)) h in
      look_below v.index c b ∙ ap Ok (k.cells c b)

  busiest_is : (a b : ℕ) → a < b → b ≤ 2 ^ v.first.size → (answer : Answer) (w : Piles) → Step v (busiest a b) answer w → answer ≡ gave (largest t.minutes a (b - a)) (busiest_cells v.first.size a b)
  unfolding busiest_answer
  busiest_is a b h inside answer w s =
      s.answers
      ∙ ap (λ r. reading_reply (refused (Minutes a b) r)) (busiest_read v.first.size b t.minutes (piles.point v.first) (look v.index) inside (point_read origin t v k) minute_small tile_read a h)

or_refused_fault : (o : Option Fault) (v : Piles) (call : Call) → refusal v (plain call) ≡ o → fault_of (or_refused o (repeats v.first.size call) (replies.reply v.first call)) ≡ o
or_refused_fault None v call e = refused_as v.first call _ refl ∙ (or_none _ _ e).0
or_refused_fault (Some f) v call e = refl

-- an answer is a refusal exactly as the checks say
refused_by : (v : Piles) (call : IndexedCall) (a : Answer) → a ≡ reply v call → fault_of a ≡ refusal v call
refused_by v (plain call) a e = ap fault_of e ∙ or_refused_fault (refusal v (plain call)) v call refl
refused_by v (busiest a b) answer e = ap fault_of e ∙ reading_fault (busiest_answer v a b)

right : (start : Beginning) (h : History) (v : Piles) → Keeps (piles_at start) (tally start h) v → (call : IndexedCall) (a : Answer) (w : Piles) → Step v call a w → Right start h call a
right start h v k call a w s =
    record { refusals = refused_by v call a s.answers ∙ refused_alike (piles_at start) (tally start h) v k call; answers = s.answers ∙ replied_alike (piles_at start) (tally start h) v k call }

-- what a history leaves: the invariant, and that each accepted call was right on the first pile
record Held (start : Beginning) (accepted : plain-history.History) (v : Piles) : Type 0 where
  keeps : Keeps (piles_at start) (plain-history.tally start.first accepted) v
  first : agreement.AllRight start.first accepted

module _ (start : Beginning) (h : plain-history.History) (v w : Piles) (held : Held start h v) where
  abbrev t : Tally
  t = plain-history.tally start.first h

  stayed : Unchanged v w → Held start h w
  stayed s = record { keeps = same_index (piles_at start) t v held.keeps w s.index (same_keeps start.first.view.store t v.first held.keeps.first w.first s.first.kept); first = held.first }

  called : (o : Option Fault) (call : Call) (a : Answer) → refusal v (plain call) ≡ o → fault_of a ≡ o → a ≡ or_refused o (repeats v.first.size call) (replies.reply v.first call) → ChangesBy o v (plain call) w → Held start (history.accepted_if o h call a) w
  called None call a e q r d =
      let passed = (or_none _ _ e).0 in
      let first = changes_keep start.first.view.store t v.first held.keeps.first call w.first passed d.0 in
      record {
        keeps = subst (λ o. Keeps (piles_at start) (enter_if o t call) w) (sym q) (index_keeps (piles_at start) t v held.keeps call w d.1 first);
        first = (held.first, next_right start.first h v.first held.keeps.first call a w.first (accepted v.first call a w.first passed r d.0));
      }
  called (Some f) call a e q r d = stayed d

  asked : (o : Option Fault) (a b : ℕ) → ChangesBy o v (busiest a b) w → Held start h w
  asked None a b d = stayed d
  asked (Some f) a b d = stayed d

stepped : (start : Beginning) (h : History) (v w : Piles) (call : IndexedCall) (a : Answer) → Held start (history.accepted h) v → Step v call a w → Held start (history.accepted (more h call a)) w
stepped start h v w (plain call) a held s =
    let q = refused_by v (plain call) a s.answers in
    subst (λ o. Held start (history.accepted_if o (history.accepted h) call a) w) (sym q)
    (called start (history.accepted h) v w held (refusal v (plain call)) call a refl q s.answers s.changes)
stepped start h v w (busiest b e) a held s = asked start (history.accepted h) v w held (refusal v (busiest b e)) b e s.changes

held : {start : Beginning} {h : History} {v : Piles} → Leads start h v → Held start (history.accepted h) v
held {start} (begun e) = record { keeps = begins_keeps start e; first = tt }
held {start} (went {h} {v} {w} {call} {answer} l s) = stepped start h v w call answer (held l) s

all_right : {start : Beginning} {h : History} {v : Piles} → Leads start h v → AllRight start h
all_right (begun e) = tt
all_right {start} (went {h} {v} {w} {call} {answer} l s) = (all_right l, right start h v (held l).keeps call answer w s)

pub sound : SoundHolds
sound start h v l =
    let o : Piles = piles_at start in
    let t : Tally = tally start h in
    let k : Keeps o t v = (held l).keeps in
    let plain_sound = sound_kept start.first (history.accepted h) v.first k.first (held l).first in
    record {
      first = plain_sound;
      bands = k.bands;
      cells = k.cells;
      room = k.room;
      again = record { data_stand = plain_sound.again; bands = k.bands ∙ k.alike ∙ sym k.first.bands; cells = k.cells };
      past = all_right l;
      able = able o t v k;
      next = right start h v k;
      busiests = busiest_is o t v k;
    }
