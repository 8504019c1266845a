-- A pass through a loop: where it stopped, and its next cell.
use Rattle.std.proofs.Common.{◌≡◌, ℕ, ◌+◌, ◌-◌, ◌<◌, Ok, Err, Result, subst, arith}
use Rattle.std.specs.Result.{MatchResult}

pub passed_on : {A B E : Type 0} (r : Result A E) (r' : Result B E) (e : E) (P : A → Type 0) (P' : B → Type 0) (Q : E → Type 0) → r ≡ Err e → r' ≡ Err e → MatchResult r P Q → MatchResult r' P' Q
passed_on r r' e P P' Q a b h = rw b (rw a at h)

pub handed : {A E : Type 0} (r : Result A E) (P P' : Type 0) (Q : E → Type 0) → (P → P') → MatchResult r (λ _. P) Q → MatchResult r (λ _. P') Q
handed (Ok _) P P' Q f h = f h
handed (Err _) P P' Q f h = h

-- counting down, the number before is the next one's
pub down_up : (f : ℕ → Type 0) (b : ℕ) → 0 < b → f b → f (b - 1 + 1)
down_up f b h = let e : b ≡ b - 1 + 1 = omega arith in subst f e

pub down_left_of : (f : ℕ → Type 0) (T b : ℕ) → 0 < b → f (T - b) → f (T - 1 - (b - 1))
down_left_of f T b h = let e : T - b ≡ T - 1 - (b - 1) = omega arith in subst f e
