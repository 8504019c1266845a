-- What holds of any two indexed warehouses, whatever brought them here.
--   Shared      equal sizes and equal minutes give equal cells in both piles
--   Agreement   on stores with equally many bands, whatever data they began with and whatever histories: both are sound, and so they share
use Rattle.std.specs.Prelude.{◌≡◌, ℕ, ◌^◌, ◌<◌}
use Rattle.agreement.specs.History.{Tally}
use Rattle.compare.specs.Compared as stores
use Rattle.indexed.specs.Piles.{Piles}
use Rattle.indexed.specs.History.{Beginning, History, Leads, tally}
use Rattle.indexed.specs.Sound.{Sound}

abbrev pub Shared : Piles → Piles → Tally → Tally → Type 0
Shared kept fresh t u =
    kept.first.size ≡ fresh.first.size
    → ((i : ℕ) → i < 2 ^ kept.first.size → t.minutes i ≡ u.minutes i)
    → stores.Shared kept.first.store fresh.first.store × stores.Shared kept.index fresh.index

abbrev pub Agreement : Piles → Piles → Type 0
Agreement kept fresh =
    (kept_start fresh_start : Beginning) (kept_history fresh_history : History)
    → kept_start.first.view.store.bands ≡ fresh_start.first.view.store.bands
    → Leads kept_start kept_history kept
    → Leads fresh_start fresh_history fresh
    → Sound kept_start kept_history kept
    × Sound fresh_start fresh_history fresh
    × Shared kept fresh (tally kept_start kept_history) (tally fresh_start fresh_history)
