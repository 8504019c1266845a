-- What a store on the heap means: what the store means.
use Rattle.std.specs.Prelude.{ℕ, ℤ}
use Rattle.store.specs.Meaning.{Meaning}
use Rattle.store.specs.Writing.{Putting, Settling}
use Rattle.pile.specs.declared.boxed.Boxed.{Boxed}

abbrev pub boxed_means : {S : Type 0} → (S → Meaning) → Boxed S → Meaning
boxed_means means b = means b.store.value

abbrev pub boxed_puts : {S : Type 0} → Putting S → Putting (Boxed S)
boxed_puts puts b c v b' = puts b.store.value c v b'.store.value

abbrev pub boxed_settled : {S : Type 0} → Settling S → Settling (Boxed S)
boxed_settled settled b b' = settled b.store.value b'.store.value
