-- A feed taken apart.
--
-- Part            a whole command with its place, or what is left of a feed from where no command can be read
-- parts k at bs   the parts of the bytes bs, which stand at place `at`; k is how many there may be
-- parts_of bs     the parts of a feed
use Rattle.std.specs.Prelude.{ℕ, zero, suc, ◌+◌, ◌-◌, List, [], ◌∷◌, length, Ok, Err, Result}
use Rattle.wire.specs.declared.command.Command.{Command}
use Rattle.wire.specs.declared.command.DecodeFault.{DecodeFault}
use Rattle.wire.specs.Decode.{decoded}

pub data Part : Type 0 where
  whole : ℕ → Command → Part
  unread : ℕ → DecodeFault → List ℕ → Part

-- the first part of the bytes bs by what is decoded there, and those after it
abbrev pub part_by : ℕ → List ℕ → (ℕ → List ℕ → List Part) → Result (Command × List ℕ) DecodeFault → List Part
part_by at bs go (Ok (c, rest)) = whole at c ∷ go (at + (length bs - length rest)) rest
part_by at bs go (Err f) = unread at f bs ∷ []

unfoldable pub parts : ℕ → ℕ → List ℕ → List Part
parts zero at bs = []
parts (suc k) at [] = []
parts (suc k) at (b ∷ bs) = part_by at (b ∷ bs) (parts k) (decoded (b ∷ bs))

abbrev pub parts_from : ℕ → List ℕ → List Part
parts_from at bs = parts (length bs) at bs

abbrev pub parts_of : List ℕ → List Part
parts_of bs = parts_from 0 bs
