-- The window on a feed.
--   Fills      more bytes from a source came to its end
use Rattle.std.specs.Prelude.{◌≡◌, ℕ, List, [], ◌++◌, length, Ok, Err, Result}
use Rattle.console.specs.declared.ends.Source.{Ghosts}

-- what a source that gave G and now gives G' brought: n bytes
pub record Brought (G G' : List ℕ → Type 0) (before after : List ℕ) (n : ℕ) : Type 0 where
  pub got : List ℕ
  pub many : length got ≡ n
  pub added : after ≡ before ++ got
  pub given : (rest : List ℕ) → G' rest → G (got ++ rest)
  pub some : (rest : List ℕ) × G' rest
  pub ended : n ≡ 0 → G' []

-- of a kind of source, from i to i'
abbrev pub Fills : {I E : Type 0} → Ghosts I E → I → I → List ℕ → List ℕ → Result ℕ E → Type 0
Fills source i i' before after (Ok n) = Brought (source.gives i) (source.gives i') before after n
Fills source i i' before after (Err e) = source.broken i'
