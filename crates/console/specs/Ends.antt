-- What the calls of a source and of a sink do, whatever error they answer.
--   G, G'     the bytes that a source may still give, before and after a call
--   K, K'     the bytes that a sink may have been given, before and after a call
--   handed    the sink holds nothing back, after a call
use Rattle.std.specs.Prelude.{◌≡◌, ℕ, ◌<◌, ◌≤◌, List, [], ◌++◌, length, take, Ok, Err, Result}

-- n bytes now stand at the front of the buffer: whatever the source gives next, it gave these before it
pub record Gave (G G' : List ℕ → Type 0) (buffer : List ℕ) (n : ℕ) : Type 0 where
  pub within : n ≤ length buffer
  pub before : (rest : List ℕ) → G' rest → G (take n buffer ++ rest)
  pub some : (rest : List ℕ) × G' rest
  pub ended : n ≡ 0 → 0 < length buffer → G' []

abbrev pub Reads : {E : Type 0} → (List ℕ → Type 0) → (List ℕ → Type 0) → Type 0 → List ℕ → Result ℕ E → Type 0
Reads G G' broken buffer (Ok n) = Gave G G' buffer n
Reads G G' broken buffer (Err e) = broken

abbrev pub Takes : {E : Type 0} → (List ℕ → Type 0) → (List ℕ → Type 0) → Type 0 → List ℕ → Result Unit E → Type 0
Takes K K' stuck bytes (Ok _) = (w : List ℕ) → K w → K' (w ++ bytes)
Takes K K' stuck bytes (Err e) = stuck

abbrev pub Flushes : {E : Type 0} → (List ℕ → Type 0) → (List ℕ → Type 0) → Type 0 → Type 0 → Result Unit E → Type 0
Flushes K K' handed stuck (Ok _) = ((w : List ℕ) → K w → K' w) × handed
Flushes K K' handed stuck (Err e) = stuck
