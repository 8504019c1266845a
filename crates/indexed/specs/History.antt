-- Histories of calls on an indexed warehouse, and what they come to.
--   History       calls with their answers, accepted or refused, from the first on
--   Beginning     a first pile's beginning, with its data, and an index
--   founding      the beginning of piles that are founded: no data are in them
--   Begins        they are the data of the first pile, and the index has their largest minutes
--   Leads         the history, and nothing else, brought piles from their beginning to these
--   accepted      the plain calls that were accepted: a history of the first pile alone
--   tally         a size and a whole number for each minute: the first pile's tally of them
--   recount       the piles that the definitions give for those at the beginning and a tally
use Rattle.std.specs.Prelude.{◌≡◌, true, pos, ◌-ℤ◌, Some, None, Option}
use Rattle.haar.specs.Tiles.{cell_count}
use Rattle.store.specs.Meaning.{Meaning, filled}
use Rattle.warehouse.specs.declared.fault.Fault.{Fault}
use Rattle.agreement.specs.Call.{Call, Answer, fault_of}
use Rattle.agreement.specs.History.{Tally, capacity}
use Rattle.agreement.specs.History as plain-history
use Rattle.indexed.specs.Largest.{tile_largest, Indexed}
use Rattle.indexed.specs.Piles.{Piles}
use Rattle.indexed.specs.Step.{IndexedCall, plain, busiest, Step}

pub data History : Type 0 where
  new : History
  more : History → IndexedCall → Answer → History

pub record Beginning : Type 0 where
  pub first : plain-history.Beginning
  pub index : Meaning

abbrev pub founding : Piles → Beginning
founding v = record { first = plain-history.founding v.first; index = v.index }

abbrev pub piles_at : Beginning → Piles
piles_at start = record { first = start.first.view; index = start.index }

pub record Begins (start : Beginning) : Type 0 where
  pub data_stand : plain-history.Begins start.first
  pub bands : start.index.bands ≡ start.first.view.store.bands
  pub cells : Indexed start.index.bands start.first.view.size start.first.minutes start.index.cells

pub data Leads (start : Beginning) : History → Piles → Type 0 where
  begun : Begins start → Leads start new (piles_at start)
  went : {h : History} {v w : Piles} {call : IndexedCall} {answer : Answer} → Leads start h v → Step v call answer w → Leads start (more h call answer) w

abbrev pub accepted_if : Option Fault → plain-history.History → Call → Answer → plain-history.History
accepted_if None h call answer = plain-history.more h call answer
accepted_if (Some f) h call answer = h

abbrev pub accepted : History → plain-history.History
accepted new = plain-history.new
accepted (more h (plain call) answer) = accepted_if (fault_of answer) (accepted h) call answer
accepted (more h (busiest a b) answer) = accepted h

abbrev pub tally : Beginning → History → Tally
tally start h = plain-history.tally start.first (accepted h)

-- the index has the largest minutes of the tally, and its capacity less one for each nonzero cell
abbrev pub recount : Piles → Tally → Piles
recount origin t =
    record {
      first = plain-history.recount origin.first.store.bands (capacity origin.first.store) t;
      index = record {
        bands = origin.index.bands;
        cells = tile_largest t.size t.minutes;
        room = capacity origin.index -ℤ pos (filled (tile_largest t.size t.minutes) (cell_count origin.index.bands));
        clean = true;
      };
    }
