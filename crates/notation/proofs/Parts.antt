-- The parts of a feed, one after another.
use Rattle.std.proofs.Common.{◌≡◌, ℕ, zero, suc, ◌+◌, ◌-◌, ◌<◌, ◌≤◌, List, [], ◌∷◌, length, Ok, Err, Result, refl, ap, ◌∙◌, arith}
use Rattle.wire.specs.declared.command.Command.{Command}
use Rattle.wire.specs.declared.command.DecodeFault.{DecodeFault}
use Rattle.wire.specs.Decode.{decoded}
use Rattle.notation.specs.Parts.{Part, whole, unread, part_by, parts, parts_from}
use Rattle.wire.proofs.Rows.{shorter}

-- what comes after a part may be found in either of two ways that agree on shorter bytes
by_same : (at : ℕ) (bs : List ℕ) (go go' : ℕ → List ℕ → List Part) (r : Result (Command × List ℕ) DecodeFault) → decoded bs ≡ r
    → ((i : ℕ) (rest : List ℕ) → length rest < length bs → go i rest ≡ go' i rest)
    → part_by at bs go r ≡ part_by at bs go' r
by_same at bs go go' (Err f) e s = refl
by_same at bs go go' (Ok (c, rest)) e s = ap (λ x. whole at c ∷ x) (s (at + (length bs - length rest)) rest (shorter bs rest c e))

-- room for more parts than bytes changes nothing
enough : (k j at : ℕ) (bs : List ℕ) → length bs ≤ k → length bs ≤ j → parts k at bs ≡ parts j at bs
unfolding parts
enough zero zero at bs p q = refl
enough zero (suc j) at [] p q = refl
enough zero (suc j) at (b ∷ bs) p q = absurd (omega arith)
enough (suc k) zero at [] p q = refl
enough (suc k) zero at (b ∷ bs) p q = absurd (omega arith)
enough (suc k) (suc j) at [] p q = refl
enough (suc k) (suc j) at (b ∷ bs) p q =
    by_same at (b ∷ bs) (parts k) (parts j) (decoded (b ∷ bs)) refl (λ i rest h. enough k j i rest (omega arith) (omega arith))

pub parts_none : (at : ℕ) → parts_from at [] ≡ []
unfolding parts
parts_none at = refl

parts_by : (at : ℕ) (bs : List ℕ) → 0 < length bs → parts_from at bs ≡ part_by at bs parts_from (decoded bs)
unfolding parts
parts_by at [] h = absurd (omega arith)
parts_by at (b ∷ bs) h = by_same at (b ∷ bs) (parts (length bs)) parts_from (decoded (b ∷ bs)) refl (λ i rest l. enough (length bs) (length rest) i rest (omega arith) (omega arith))

pub parts_whole : (at : ℕ) (bs rest : List ℕ) (c : Command) → decoded bs ≡ Ok (c, rest) → parts_from at bs ≡ whole at c ∷ parts_from (at + (length bs - length rest)) rest
parts_whole at bs rest c e = let h = shorter bs rest c e in parts_by at bs (omega arith) ∙ ap (part_by at bs parts_from) e

pub parts_unread : (at : ℕ) (bs : List ℕ) (f : DecodeFault) → 0 < length bs → decoded bs ≡ Err f → parts_from at bs ≡ unread at f bs ∷ []
parts_unread at bs f h e = parts_by at bs h ∙ ap (part_by at bs parts_from) e
