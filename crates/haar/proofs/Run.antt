-- Every run keeps the Haar cells.
use Rattle.std.proofs.Common.{ℕ, ◌*◌, ◌≤◌, ℤ, refl, subst}
use Rattle.haar.specs.Haar.{HaarCells}
use Rattle.haar.specs.Growth.{Blank, Grown}
use Rattle.haar.specs.Run.{Run, found, load, grow}
use Rattle.haar.proofs.Load.{founded, loaded, total_cell}
use Rattle.haar.proofs.Growth.{growth}
use Rattle.haar.proofs.Read.{chunk_blank, plus_blank, grow_blank}

pub sound : (T n : ℕ) (f x : ℕ → ℤ) → 1 ≤ T → Run T n f x → HaarCells T n f x × Blank n f × (n ≤ 4 * T)
sound T n f x a (found h z) = (founded T n x a h z, (λ i _. refl), h)
sound T n f x a (load {m = m} {p = p} {f = f'} {g = g} {x = x'} l b c d r) =
    let (haar, blank, h) = sound T n f' x' a r in
    (loaded T n m p f' g x' x a h l c haar d, plus_blank n f' g blank (chunk_blank n m p g l b c), h)
sound T n f x a (grow {n = n'} {x = x'} h d r) =
    let (haar, blank, _) = sound T n' f x' a r in
    (growth T n' f x' h blank haar x (subst (λ v. Grown T n' v x' x) (total_cell T n' f x' haar) d), grow_blank n' f blank, h)
