-- What a warehouse is known by: its size, its mark and its store's meaning. A size past what the bands can have counts as the largest that they
-- can, and a mark past the size as the size's end.
--   end_of j k          one past the last minute of the interval (j,k)
--   view m asked mark   a warehouse on a store that means m, for which a size and a mark were given
--   unmarked m n        one of size n, whose mark is 0
--   known means w       what the warehouse w is known by, where `means` tells what its store means
use Rattle.std.specs.Prelude.{ℕ, ◌+◌, ◌*◌, ◌^◌, min}
use Rattle.store.specs.Meaning.{Meaning}
use Rattle.warehouse.specs.declared.record.Warehouse.{Warehouse}

pub record View : Type 0 where
  pub size : ℕ
  -- one past the highest minute that an addition covered
  pub mark : ℕ
  pub store : Meaning

abbrev pub end_of : ℕ → ℕ → ℕ
end_of j k = (k + 1) * 2 ^ j

abbrev pub view : Meaning → ℕ → ℕ → View
view m asked mark = record { size = min asked (4 * m.bands); mark = min mark (2 ^ min asked (4 * m.bands)); store = m }

abbrev pub unmarked : Meaning → ℕ → View
unmarked m n = record { size = n; mark = 0; store = m }

abbrev pub known : {S : Type 0} → (S → Meaning) → Warehouse S → View
known means w = view (means w.store) w.asked w.mark
