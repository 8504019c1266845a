use Rattle.std.proofs.Common.{◌≡◌, ◌+◌, ◌-◌, ◌+ℤ◌, ◌<◌, sym, ap, ◌∙◌, subst, ap₂, arith, w64, SFits, to_z, of_z, rules}
use Rattle.std.proofs.lemmas.Int.{to_z-of_z}
use Rattle.std.proofs.lemmas.Result.{err_from_is_err_and}
use Rattle.haar.specs.Tiles.{cell_count}
use Rattle.store.specs.Meaning.{weight}
use Rattle.loads.specs.Loads.{Small}
use Rattle.loads.proofs.Seen.{seen_in, seen_large, seen_step, count_most, used_most}
use Rattle.loads.proofs.chunk.CheckingPass.take.Goals as goal

pub number_in-number-requires : goal.number_in-number-requires
number_in-number-requires g c =
    let (r, d, x, passed, takes) = c.requires in
    let b = ap (λ y. (g.S.Store.means y.now).bands) passed.0 ∙ passed.1 in
    subst (λ b. c.args.cell < cell_count b) (sym b) (seen_in _ _ _ _ _ _ r.some r.held _ _ passed.2 takes.coefficient takes.meets takes.numbered)

pub returns-in_err-new : goal.returns-in_err-new
returns-in_err-new g c = λ r d x passed takes.
    let p = err_from_is_err_and c.from_residual.result c.from_residual.ensures.1 in
    let h : SFits w64 c.number_in-number.result = search rules in
    let n = rw c.in_err-new.ensures.ok_part at c.added.ensures in
    let v = rw c.in_err-new.ensures.ok_part at c.in_err-new.ensures.value in
    let k : c.in_err-new.field-0.0 ≡ c.args.cell = cc in
    let b = to_z-of_z w64 _ h ∙ c.number_in-number.ensures ∙ ap (λ y. (g.S.Store.means y.now).cells c.args.cell) passed.0 in
    rw (p.1, p.2, k) (seen_large _ _ _ _ _ _ r.some r.held _ _ passed.2 takes.coefficient takes.meets takes.numbered
    (λ sm. n (subst Small (sym (ap₂ ◌+ℤ◌ b (to_z-of_z w64 _ c.ranges.share ∙ takes.is))) sm)))

pub overflow_add-self : goal.overflow_add-self
overflow_add-self g c =
    let (r, d, x, passed, takes) = c.requires in
    omega (arith, passed.2.few, passed.2.below, used_most (to_z w64 (of_z w64 c.in_ok-new.new)), count_most r.bands r.few)

pub returns : goal.returns
returns g c = λ r d x passed takes.
    let f : SFits w64 c.in_ok-new.new = search rules in
    let h : SFits w64 c.number_in-number.result = search rules in
    let n = rw c.in_ok-new.ensures.ok_part at c.added.ensures in
    let b : to_z w64 (of_z w64 c.number_in-number.result) ≡ (g.S.Store.means x.store.now).cells c.args.cell = to_z-of_z w64 _ h ∙ c.number_in-number.ensures ∙ ap (λ y. (g.S.Store.means y.now).cells c.args.cell) passed.0 in
    let e = ap₂ ◌+ℤ◌ b (to_z-of_z w64 _ c.ranges.share ∙ takes.is) in (
      passed.0,
      passed.1,
      seen_step _ _ _ _ _ _ r.some r.held _ _ passed.2 takes.coefficient takes.meets takes.numbered _ (subst Small e n.1)
          (ap (λ z. c.args.self.now.started + z) (c.starts.ensures ∙ ap₂ (λ x y. weight x - weight y) (to_z-of_z w64 _ f ∙ n.0 ∙ e) b)),
    )
