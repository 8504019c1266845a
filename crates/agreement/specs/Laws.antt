-- What the searches inside the checks find, and what a load touches, in other words than their own.
--   Lowest          the lowest number below a bound that passes a test, or that none does
--   LowestBarred   the lowest cell to write that is barred, or that none is
--   Subtree         the coefficients inside a chunk, and RootPath those over it
use Rattle.std.specs.Prelude.{◌≡◌, ℕ, ◌-◌, ◌/◌, ◌^◌, ◌<◌, ◌≤◌, Bool, true, false, ◌⊎◌, List, ℤ, Some, None, Option, Result}
use mathlib.Core.List.{Memᴰ}
use Rattle.haar.specs.declared.coefficient.Coefficient.{Coefficient}
use Rattle.haar.specs.Load.{level, index, Touched}
use Rattle.warehouse.specs.declared.fault.Fault.{Fault}
use Rattle.agreement.specs.Check.{Write, put, lowest, barred, lowest_barred}

abbrev pub Lowest : (ℕ → Bool) → ℕ → Option ℕ → Type 0
Lowest test b None = (i : ℕ) → i < b → test i ≡ false
Lowest test b (Some c) = (c < b) × (test c ≡ true) × ((i : ℕ) → i < c → test i ≡ false)

abbrev pub LowestBarred : (ℕ → Result ℤ Fault) → List Write → Option ℕ → Type 0
LowestBarred look ws None = (c : ℕ) (v : ℤ) → Memᴰ (put c v) ws → barred (look c) v ≡ false
LowestBarred look ws (Some c) = ((v : ℤ) × Memᴰ (put c v) ws × (barred (look c) v ≡ true)) × ((d : ℕ) (v : ℤ) → Memᴰ (put d v) ws → barred (look d) v ≡ true → c ≤ d)

abbrev pub Subtree : ℕ → ℕ → ℕ → Coefficient → Type 0
Subtree n m p s = (level n s ≤ m) × (index s / 2 ^ (m - level n s) ≡ p)

abbrev pub RootPath : ℕ → ℕ → ℕ → Coefficient → Type 0
RootPath n m p s = (m < level n s) × (index s ≡ p / 2 ^ (level n s - m))

abbrev pub LawsHold : Type 0
LawsHold =
    ((test : ℕ → Bool) (b : ℕ) → Lowest test b (lowest test b))
    × ((look : ℕ → Result ℤ Fault) (ws : List Write) → LowestBarred look ws (lowest_barred look ws))
    × ((n m p : ℕ) (s : Coefficient) → (Touched n m p s → Subtree n m p s ⊎ RootPath n m p s) × (Subtree n m p s ⊎ RootPath n m p s → Touched n m p s))
