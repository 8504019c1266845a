-- A chunk's minutes and its buffer once transformed.
--   minutes m p zs    the data that have zs in the chunk (m,p), and zero elsewhere
--   told m p hs       those data, told by the tree hs of zs
--   Ready m hs        hs is the tree of 2^m values within their limits
use Rattle.std.specs.Prelude.{◌≡◌, ℕ, ◌/◌, ◌%◌, ◌^◌, cond, List, length, ℤ, pos, ◌==◌, slice_index_or}
use Rattle.loads.specs.Transform.{haar, unhaar, Within}

unfoldable pub minutes : ℕ → ℕ → List ℤ → ℕ → ℤ
minutes m p zs i = cond (i / 2 ^ m == p) (slice_index_or zs (i % 2 ^ m) (pos 0)) (pos 0)

abbrev pub told : ℕ → ℕ → List ℤ → ℕ → ℤ
told m p hs = minutes m p (unhaar m hs)

-- the values alone, from minute 0
abbrev pub alone : List ℤ → ℕ → ℤ
alone zs i = slice_index_or zs i (pos 0)

pub record Ready (m : ℕ) (hs : List ℤ) : Type 0 where
  pub many : length (unhaar m hs) ≡ 2 ^ m
  pub image : hs ≡ haar m (unhaar m hs)
  pub small : Within (2 ^ 31) (unhaar m hs)
