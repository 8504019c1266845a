-- What a Feeding link hands on into a buffer.
--   Handed m b n m' b'        n polls of a line that meant m gave the first n bytes of b'; what stood behind them stays
--   HandsOn m b n none m' b'  so many were handed on, until the buffer was full, or until none came at one poll more
use Rattle.std.specs.Prelude.{◌≡◌, ℕ, suc, ◌<◌, ◌≤◌, Bool, true, false, List, length, None, slice_get}
use Rattle.link.specs.Meaning.{Meaning, IsMoved}

pub record Handed (m : Meaning) (buffer : List ℕ) (many : ℕ) (polls : ℕ) (m' : Meaning) (buffer' : List ℕ) : Type 0 where
  pub within : many ≤ length buffer
  pub long : length buffer' ≡ length buffer
  pub came : (k : ℕ) → k < many → m.comes k ≡ slice_get buffer' k
  pub kept : (k : ℕ) → many ≤ k → slice_get buffer' k ≡ slice_get buffer k
  pub moved : IsMoved polls m m'

abbrev pub HandsOn : Meaning → List ℕ → ℕ → Bool → Meaning → List ℕ → Type 0
HandsOn m buffer many true m' buffer' = Handed m buffer many (suc many) m' buffer' × (m.comes many ≡ None)
HandsOn m buffer many false m' buffer' = Handed m buffer many many m' buffer' × (many ≡ length buffer)
