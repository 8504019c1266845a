-- A line that has bytes waiting gives none behind them.
use Rattle.std.specs.Prelude.{length}
use Rattle.std.proofs.Common.{arith}
use Rattle.std.proofs.lemmas.Option.{slice_get_past}
use Rattle.link.specs.Meaning.{Waiting, meaning_of}
use Rattle.linkfeed.specs.Piece.{Stops}

pub waiting_stops : (w : Waiting) → Stops (meaning_of w).comes
waiting_stops w = (length w.bytes, slice_get_past w.bytes (length w.bytes) (omega arith))
