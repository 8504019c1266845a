use Rattle.std.proofs.Common.{Ok, ◌^◌, ◌≤◌, ◌∙◌, ap, subst, refl, w64, SFits, rules}
use Rattle.std.proofs.lemmas.Int.{to_z-of_z}
use Rattle.warehouse.specs.View.{known}
use Rattle.loads.proofs.Growing.{grew}
use Rattle.loads.proofs.growth.raise.Goals as goal

pub returns-clause-grows : goal.returns-clause-grows
returns-clause-grows g c =
    let means = g.S.Store.means in
    let v = known means c.args.warehouse.now in
    let kept = c.of-cells.ensures.kept in
    let again = c.of-cells-2.ensures.kept in
    let f : SFits w64 c.read_total-total.result = search rules in
    let told = to_z-of_z w64 _ f in (
      grew v _ _ _ (ap means kept) (ap means again) _ _ _ _ _ _ _ c.mark-mark.result c.mark-mark.ensures.is (subst (λ k. k ≤ 2 ^ v.size) c.mark-mark.ensures.is c.mark-mark.ensures.most) c.size-size.ensures.is c.of-cells.ensures.size c.of-cells-2.ensures.size c.bands-bands.ensures.is c.of-cells.result.whole
          c.if-size-bands.false (told ∙ c.read_total-total.ensures) (c.if-not-is_small.ensures.near.0 refl) c.newly_filled-more.ensures (c.if-not-fits.ensures.yes refl) c.write.ensures.topped,
      subst (λ s. g.B.Beside.grows c.args.beside.now (known means (record { store = s; asked = c.args.warehouse.now.asked; mark = c.args.warehouse.now.mark })) (Ok tt) c.grow.new.self) kept
          (subst (λ r. g.B.Beside.grows c.args.beside.now (known means (record { store = c.of-cells.result.store.now; asked = c.args.warehouse.now.asked; mark = c.args.warehouse.now.mark })) r c.grow.new.self) c.in_ok-grow.was c.grow.ensures),
    )
