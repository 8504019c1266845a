use Rattle.std.proofs.Common.{sym, ◌∙◌, w64, SFits, rules}
use Rattle.std.proofs.lemmas.Int.{to_z-of_z}
use Rattle.store.proofs.Lookups.{found}
use Rattle.store.proofs.sparse_store.SparseStore.read.Goals as goal

pub returns : goal.returns
returns c =
    let f : SFits w64 c.unwrap_or.result = search rules in
    let e = to_z-of_z w64 _ f ∙ c.unwrap_or.ensures ∙ sym (found _ _ _ _ c.get.ensures) in
    search rules
