-- Piles: a store with none to three hold-back layers on it.
--   Layered        a store, or one layer over it
--   Pile           a store with none to three layers
--   pile_means     what a pile is known by, over what its bottom means
--   bare s         the store s with no layer
--   below          what lies under a layer, if there is one
--   bottom_of      the store at the bottom
--   layers_on      how many layers a pile has
--   without_top    a pile without its topmost layer
--   HoldsNone      the topmost layer, if there is one, holds nothing
--   Over p q       q is p with one layer more, which holds nothing
use Rattle.std.specs.Prelude.{◌≡◌, ℕ, suc}
use Rattle.store.specs.Meaning.{Meaning}
use Rattle.store.specs.Contents.{Empty}
use Rattle.holdback.specs.declared.held.HoldBack.{HoldBack}
use Rattle.holdback.specs.Layer.{layer_means}
use Rattle.pile.specs.declared.either.Either.{Either}
use Rattle.pile.specs.declared.either.Either.TheVariants.{Left, Right}
use Rattle.pile.specs.Either.{either_means}

abbrev pub Layered : Type 0 → Type 0
Layered S = Either S (HoldBack S)

abbrev pub Pile : Type 0 → Type 0
Pile S = Layered (Layered (Layered S))

abbrev pub layered_means : {S : Type 0} → (S → Meaning) → Layered S → Meaning
layered_means means = either_means means (layer_means means)

abbrev pub pile_means : {S : Type 0} → (S → Meaning) → Pile S → Meaning
pile_means means = layered_means (layered_means (layered_means means))

abbrev pub bare : {S : Type 0} → S → Pile S
bare s = Left (Left (Left s))

abbrev pub below : {S : Type 0} → Layered S → S
below (Left s) = s
below (Right h) = h.below

abbrev pub bottom_of : {S : Type 0} → Pile S → S
bottom_of p = below (below (below p))

abbrev pub layers_on : {S : Type 0} → Pile S → ℕ
layers_on (Left (Left (Left s))) = 0
layers_on (Left (Left (Right h))) = 1
layers_on (Left (Right h)) = 2
layers_on (Right h) = 3

abbrev pub without_top : {S : Type 0} → Pile S → Pile S
without_top (Left (Left (Left s))) = Left (Left (Left s))
without_top (Left (Left (Right h))) = Left (Left (Left h.below))
without_top (Left (Right h)) = Left (Left h.below)
without_top (Right h) = Left h.below

abbrev pub HoldsNone : {S : Type 0} → Pile S → Type 0
HoldsNone (Left (Left (Left s))) = Unit {0}
HoldsNone (Left (Left (Right h))) = Empty h.held
HoldsNone (Left (Right h)) = Empty h.held
HoldsNone (Right h) = Empty h.held

pub record Over {S : Type 0} (p q : Pile S) : Type 0 where
  pub layers : layers_on q ≡ suc (layers_on p)
  pub rest : without_top q ≡ p
  pub none : HoldsNone q
