use Rattle.std.proofs.Common.{◌≡◌, ℕ, ◌<◌, ◌≤◌, min, MatchOption, Some, None, Option, ap, ◌∙◌, arith, rules}
use Rattle.std.proofs.lemmas.Grind.{common_steps}
use Rattle.std.proofs.lemmas.Iterator.{first_from_Range}
use Rattle.haar.specs.Tiles.{cell_count}
use Rattle.store.specs.Meaning.{Meaning}
use Rattle.compare.specs.Compared.{Shared, DifferFirst}
use Rattle.compare.proofs.comparing.lowest_difference.Goals as goal

-- whether two stores have the same number in a cell that both have
abbrev Same : Meaning → Meaning → ℕ → Type 0
Same s t c = c < cell_count s.bands → c < cell_count t.bands → s.cells c ≡ t.cells c

abbrev Other : Meaning → Meaning → ℕ → Type 0
Other s t c = c < cell_count s.bands → c < cell_count t.bands → s.cells c ≡ t.cells c → ⊥

lowest : (s t : Meaning) (count : ℕ) (r : Option ℕ) → count ≡ cell_count s.bands → s.bands ≡ t.bands
    → MatchOption r ((k : ℕ) → 0 ≤ k → k < count → Same s t k) (λ i. (0 ≤ i) × (i < count) × Other s t i × ((k : ℕ) → 0 ≤ k → k < i → Same s t k))
    → MatchOption r (Shared s t) (DifferFirst s t)
lowest s t count None d b h = let e = ap cell_count b in λ k l. h k (omega arith) (omega arith) l (omega arith)
lowest s t count (Some c) d b h =
    let e = ap cell_count b in
    let l = h.1 in
    (omega arith, h.2 (omega arith) (omega arith), λ k m. h.3 k (omega arith) m (omega arith) (omega arith))

pub returns : goal.returns
returns g c =
    let s = g.K.Store.means c.args.first.now in
    let t = g.F.Store.means c.args.second.now in
    let b : min c.bands.result 5 ≡ s.bands = omega (arith, c.bands.ensures.is, c.bands.ensures.lawful.few) in
    lowest s t _ _ (c.cell_count-count.ensures ∙ ap cell_count b) c.requires (first_from_Range _ _ _ _ (Other s t) (Same s t) c.find.ensures.ran
    (λ x q h. grind (arith, common_steps))
    (λ x q h. (search rules, grind (arith, common_steps))))
