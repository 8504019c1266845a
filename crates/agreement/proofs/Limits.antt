-- Checks that pass, the lowest place at which one does not, and numbers within their limits.
use Rattle.std.proofs.Common.{◌≡◌, ℕ, ◌^◌, ◌<◌, ◌≤◌, Bool, true, false, ℤ, pos, negsuc, nat_abs, Some, None, Option, refl, ap, ◌∙◌, ⊎_elim, arith}
use Rattle.std.proofs.lemmas.Int.{ints}
use Rattle.std.proofs.lemmas.Bool.{cases_lt, cases_Bool, both_ways, lt-leb, leb-false}
use Rattle.warehouse.specs.declared.fault.Fault.{Fault}
use Rattle.warehouse.specs.Read.{limit}
use Rattle.loads.specs.Addition.{Limit}
use Rattle.loads.specs.Loads.{Small}
use Rattle.agreement.specs.Check.{or, lowest, wide}
use Rattle.agreement.specs.Laws.{Lowest}
use Rattle.agreement.proofs.Searches.{lowest_is}

-- a passed check, and one that finds a fault
pub next : (o rest r : Option Fault) → o ≡ None → rest ≡ r → or o rest ≡ r
next o rest r e f = ap (λ o. or o rest) e ∙ f

pub hit : (o rest : Option Fault) (f : Fault) → o ≡ Some f → or o rest ≡ Some f
hit o rest f e = ap (λ o. or o rest) e

-- values within their limits
pub limited : (z : ℤ) → Limit z → wide z ≡ false
limited (pos n) l = lt-leb (2 ^ 31) n (omega (arith, ints, l.0, l.1))
limited (negsuc n) l = lt-leb (2 ^ 31) n (omega (arith, ints, l.0, l.1))

pub within : (z : ℤ) → wide z ≡ false → Limit z
within (pos n) e = let h = leb-false (2 ^ 31) n e in (omega (arith, ints), omega (arith, ints))
within (negsuc n) e = let h = leb-false (2 ^ 31) n e in (omega (arith, ints), omega (arith, ints))

pub unlimited : (z : ℤ) → (Limit z → ⊥) → wide z ≡ true
unlimited z out = ⊎_elim (λ e. e) (λ (e : wide z ≡ false). absurd (out (within z e))) (cases_Bool (wide z))

-- the lowest number that passes a test, from what it is
pub lowest_some : (test : ℕ → Bool) (b c : ℕ) → c < b → test c ≡ true → ((i : ℕ) → i < c → test i ≡ false) → lowest test b ≡ Some c
lowest_some test b c l e below = go (lowest test b) (lowest_is test b)
  where
    go : (o : Option ℕ) → Lowest test b o → o ≡ Some c
    go None u = absurd (both_ways _ (u c l) e)
    go (Some d) u =
        let x : (d < c) → ⊥ = λ h. both_ways _ (below d h) u.1 in
        let y : (c < d) → ⊥ = λ h. both_ways _ (u.2 c h) e in
        let q : d ≡ c = ⊎_elim (λ (lt : d < c). absurd (x lt)) (λ (le : c ≤ d). ⊎_elim (λ (lt : c < d). absurd (y lt)) (λ (ge : d ≤ c). omega arith) (cases_lt c d)) (cases_lt d c) in
        ap Some q

pub lowest_no : (test : ℕ → Bool) (b : ℕ) → ((i : ℕ) → i < b → test i ≡ false) → lowest test b ≡ None
lowest_no test b none = go (lowest test b) (lowest_is test b)
  where
    go : (o : Option ℕ) → Lowest test b o → o ≡ None
    go None u = refl
    go (Some d) u = absurd (both_ways _ (none d u.0) u.1)

pub small_abs : (z : ℤ) → nat_abs z ≤ limit → Small z
small_abs z h = (omega (arith, ints), omega (arith, ints))

pub abs_small : (z : ℤ) → Small z → nat_abs z ≤ limit
abs_small z h = omega (arith, ints, h.0, h.1)
