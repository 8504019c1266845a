-- What a store means that is one of two.
--   either_means      what the store it is means
--   either_puts       a number written to a cell of the store it is, which it stays
--   either_settled    the store it is, settled, which it stays
use Rattle.std.specs.Prelude.{ℕ, ℤ}
use Rattle.store.specs.Meaning.{Meaning, Lawful}
use Rattle.store.specs.Writing.{Putting, Settling}
use Rattle.pile.specs.declared.either.Either.{Either}
use Rattle.pile.specs.declared.either.Either.TheVariants.{Left, Right}

abbrev pub either_means : {A B : Type 0} → (A → Meaning) → (B → Meaning) → Either A B → Meaning
either_means one other (Left a) = one a
either_means one other (Right b) = other b

abbrev pub either_puts : {A B : Type 0} → Putting A → Putting B → Putting (Either A B)
either_puts one other (Left a) c v (Left a') = one a c v a'
either_puts one other (Left a) c v (Right b) = ⊥
either_puts one other (Right b) c v (Right b') = other b c v b'
either_puts one other (Right b) c v (Left a) = ⊥

abbrev pub either_settled : {A B : Type 0} → Settling A → Settling B → Settling (Either A B)
either_settled one other (Left a) (Left a') = one a a'
either_settled one other (Left a) (Right b) = ⊥
either_settled one other (Right b) (Right b') = other b b'
either_settled one other (Right b) (Left a) = ⊥

pub either_lawful : {A B : Type 0} (one : A → Meaning) (other : B → Meaning) → ((a : A) → Lawful (one a)) → ((b : B) → Lawful (other b)) → (e : Either A B) → Lawful (either_means one other e)
either_lawful one other l r (Left a) = l a
either_lawful one other l r (Right b) = r b
