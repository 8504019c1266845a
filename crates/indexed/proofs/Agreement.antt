-- Any two indexed warehouses agree.
use Rattle.std.proofs.Common.{◌≡◌, ℕ, ◌+◌, ◌*◌, ◌^◌, ◌<◌, sym, ap, ◌∙◌, subst, arith}
use Rattle.haar.specs.Tiles.{cell_count}
use Rattle.agreement.specs.Agreement as specs
use Rattle.agreement.proofs.Agreement as plain
use Rattle.indexed.specs.Agreement.{Shared, Agreement}
use Rattle.indexed.specs.History.{Beginning, History, accepted, tally}
use Rattle.indexed.specs.Largest.{tile_minutes, tile_largest}
use Rattle.indexed.specs.Piles.{Piles}
use Rattle.indexed.specs.Sound.{Sound}
use Rattle.indexed.proofs.Largest.{largest_same}
use Rattle.indexed.proofs.Sound.{sound}

module _ (kept-start fresh-start : Beginning) (kept-history fresh-history : History) (kept fresh : Piles) (same : kept-start.first.view.store.bands ≡ fresh-start.first.view.store.bands) (k : Sound kept-start kept-history kept) (f : Sound fresh-start fresh-history fresh) where
  first : specs.Shared kept.first fresh.first (tally kept-start kept-history) (tally fresh-start fresh-history)
  first = plain.shared kept-start.first fresh-start.first (accepted kept-history) (accepted fresh-history) kept.first fresh.first same k.first f.first

  bands : fresh.index.bands ≡ kept.index.bands
  bands = f.again.bands ∙ f.first.bands ∙ sym same ∙ sym k.first.bands ∙ sym k.again.bands

  shared : Shared kept fresh (tally kept-start kept-history) (tally fresh-start fresh-history)
  shared e alike = (first e alike, λ c h. k.cells c h ∙ tiles c ∙ sym (f.cells c (subst (λ T. c < cell_count T) (sym bands) h)))
    where
      tiles : (c : ℕ) → tile_largest kept.first.size (tally kept-start kept-history).minutes c ≡ tile_largest fresh.first.size (tally fresh-start fresh-history).minutes c
      tiles c =
          largest_same _ _ (16 * c) (tile_minutes kept.first.size c) (λ i a b. alike i (omega arith))
          ∙ ap (λ n. tile_largest n (tally fresh-start fresh-history).minutes c) e

pub agreement : (kept fresh : Piles) → Agreement kept fresh
agreement kept fresh kept-start fresh-start kept-history fresh-history same l m =
    let k = sound kept-start kept-history kept l in
    let f = sound fresh-start fresh-history fresh m in
    (k, f, shared kept-start fresh-start kept-history fresh-history kept fresh same k f)
