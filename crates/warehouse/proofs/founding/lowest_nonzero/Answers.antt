use Rattle.std.proofs.Common.{◌≡◌, ℕ, ◌<◌, ◌≤◌, MatchOption, Some, None, Option, pos, arith, rules}
use Rattle.std.proofs.lemmas.Grind.{common_steps}
use Rattle.std.proofs.lemmas.Iterator.{first_from_Range}
use Rattle.haar.specs.Tiles.{cell_count}
use Rattle.store.specs.Meaning.{Meaning}
use Rattle.warehouse.specs.Founding.{Empty}
use Rattle.warehouse.proofs.founding.lowest_nonzero.Goals as goal

lowest : (m : Meaning) (count : ℕ) (r : Option ℕ) → count ≡ cell_count m.bands → MatchOption r ((k : ℕ) → 0 ≤ k → k < count → k < cell_count m.bands → m.cells k ≡ pos 0) (λ i. (0 ≤ i) × (i < count) × (m.cells i ≡ pos 0 → ⊥) × ((k : ℕ) → 0 ≤ k → k < i → k < cell_count m.bands → m.cells k ≡ pos 0)) → MatchOption r (Empty m count) (λ c. (c < count) × (m.cells c ≡ pos 0 → ⊥) × Empty m c)
lowest m count None e h = λ d l. h d (omega arith) l (omega arith)
lowest m count (Some c) e h = (h.1, h.2, λ d l. h.3 d (omega arith) l (omega (arith, h.1)))

pub returns : goal.returns
returns g c =
    let m = g.S.Store.means c.args.store.now in
    lowest m c.args.count _ c.requires (first_from_Range _ _ _ _ (λ k. m.cells k ≡ pos 0 → ⊥) (λ k. k < cell_count m.bands → m.cells k ≡ pos 0) c.find.ensures.ran
    (λ x q h. grind (arith, common_steps))
    (λ x q h. (search rules, grind (arith, common_steps))))
