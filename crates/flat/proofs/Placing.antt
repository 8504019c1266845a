-- One number of a slice changed, as a write to the store.
use Rattle.std.proofs.Common.{◌≡◌, ℕ, ◌+◌, ◌<◌, ◌≤◌, List, length, set, ℤ, pos, ap, arith}
use Rattle.std.proofs.lemmas.List.{get_or-set_same, get_or-set_other}
use Rattle.store.specs.Meaning.{weight, filled}
use Rattle.store.proofs.Counting.{filled_put}
use Rattle.flat.specs.Slice.{number_at}

module _ (zs : List ℤ) (c N : ℕ) (v : ℤ) (i : c < N) (l : N ≤ length zs) where
  here : number_at (set zs c v) c ≡ v
  here = get_or-set_same zs c v (pos 0) (omega arith)

  other : (k : ℕ) → (k ≡ c → ⊥) → number_at (set zs c v) k ≡ number_at zs k
  other k ne = get_or-set_other zs c k v (pos 0) ne

  pub recounted : (empty left : ℕ) → left + weight v ≡ empty + weight (number_at zs c) → empty + filled (number_at zs) N ≡ N → left + filled (number_at (set zs c v)) N ≡ N
  recounted empty left e t =
      let p = filled_put (number_at zs) (number_at (set zs c v)) c N i (λ k _ ne. other k ne) in
      let u = ap weight here in
      omega arith
