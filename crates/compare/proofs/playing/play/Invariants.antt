use Rattle.std.proofs.Common.{◌≡◌, drop}
use Rattle.warehouse.specs.View.{View, known}
use Rattle.agreement.specs.History.{History}
use Rattle.compare.specs.Playing.{Played}
use Rattle.compare.proofs.playing.play.Given as goal

-- what was played so far, whatever the calls that are left then do
abbrev pub invariant-calls : goal.invariant-calls
invariant-calls g l =
    record {
      kept : l.numbers ≡ l.initial.numbers;
      far : (h : History) → (f : History)
          × ((w : View) (k : History) → Played (known g.S.Store.means l.warehouse) l.initial.numbers (drop l.call-index l.calls) f w k → Played (known g.S.Store.means l.initial.warehouse) l.initial.numbers l.calls h w k);
    }
