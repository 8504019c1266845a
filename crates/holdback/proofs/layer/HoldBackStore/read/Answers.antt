use Rattle.std.proofs.Common.{ℤ, sym, ap, ◌∙◌, subst, Ok, w64, SFits, rules}
use Rattle.std.specs.Option.{unwrap_or}
use Rattle.std.proofs.lemmas.Int.{to_z-of_z}
use Rattle.store.specs.Meaning.{Reads}
use Rattle.holdback.specs.Layer.{layer_means}
use Rattle.holdback.proofs.Calls.{reads_over}
use Rattle.holdback.proofs.layer.HoldBackStore.read.Goals as goal

pub returns : goal.returns
returns g c =
    let f : SFits w64 c.unwrap_or.result = search rules in
    let b : SFits w64 c.in_ok-below.below = search rules in
    let P : ℤ → Type 0 = λ v. Reads (layer_means g.S.Store.means c.args.self.now) c.args.cell (Ok v) in
    let e = to_z-of_z w64 _ f ∙ c.unwrap_or.ensures ∙ ap (unwrap_or c.get.result) (to_z-of_z w64 _ b) in
    subst P (sym e) (reads_over _ _ _ _ _ _ c.in_ok-below.ensures c.get.ensures)
