-- From a check that passed to a load that is full, or taken.
use Rattle.std.proofs.Common.{◌≡◌, ℕ, ◌*◌, ◌≤◌, Ok, Err, Result, ℤ, pos, ◌<ℤ◌, sym, subst}
use Rattle.std.specs.Result.{MatchResult, IsErrAnd}
use Rattle.warehouse.specs.declared.fault.Fault.{Fault}
use Rattle.haar.specs.Load.{Chunk}
use Rattle.haar.proofs.Load.{some_load}
use Rattle.store.specs.Meaning.{Meaning}
use Rattle.loads.specs.Loads.{Clears, Checked}
use Rattle.loads.specs.Adds.{Crowded}

-- what the check answered, from its answer with a fault for the cell
module _ (T n m p : ℕ) (g : ℕ → ℤ) (before : Meaning) (q : Result ℕ Fault) (post : ℕ → Fault → Type 0) where
  pub all_clear : (r : Result ℕ ℕ) (k : ℕ) → MatchResult r (λ x. q ≡ Ok x) (λ e. IsErrAnd q (post e)) → q ≡ Ok k → Checked T n m p g before.cells r → Clears T n m p g before.cells k
  all_clear (Ok x) k h e c = let s : x ≡ k = cc in subst (Clears T n m p g before.cells) s c
  all_clear (Err x) k h e c = absurd (rw e at h)

module _ (T n m p : ℕ) (g : ℕ → ℤ) (before : Meaning) (k : ℕ) (clears : Clears T n m p g before.cells k) where
  pub crowded : 1 ≤ T → n ≤ 4 * T → m ≤ n → Chunk m p g → before.room <ℤ pos k → Crowded T n m p g before
  crowded a h l chunk over =
      let y = some_load T n m p g before.cells a h l chunk in
      record { small = clears.small; after = y.0; load = y.1; over = subst (λ z. before.room <ℤ pos z) (sym (clears.starts y.0 y.1)) over }
