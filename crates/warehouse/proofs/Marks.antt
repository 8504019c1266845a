-- The end of an interval inside a size.
use Rattle.std.proofs.Common.{◌≡◌, ℕ, ◌+◌, ◌-◌, ◌*◌, ◌^◌, ◌<◌, ◌≤◌, ◌%◌, min, ap, ◌∙◌, arith, pow_mono, pow-add, mul-le-mul_right}
use Rattle.warehouse.specs.View.{end_of}

pub end_inside : (n j k : ℕ) → j ≤ n → k < 2 ^ (n - j) → end_of j k ≤ 2 ^ n
end_inside n j k l b =
    let a : 2 ^ n ≡ 2 ^ (n - j) * 2 ^ j = ap (λ x. 2 ^ x) (omega arith) ∙ pow-add 2 (n - j) j in
    let c : k + 1 ≤ 2 ^ (n - j) = omega arith in
    rw a (mul-le-mul_right (2 ^ j) c)

whole : (x : ℕ) → x ≤ 2 ^ 20 → x % 4294967296 ≡ x
whole x l = omega arith

-- as code works it out, in 32 bits
pub end_shl : (n j k : ℕ) → n ≤ 20 → j ≤ n → k < 2 ^ (n - j) → (k + 1) * 2 ^ j % 4294967296 ≡ end_of j k
end_shl n j k few l b =
    let p = pow_mono few in
    let q = end_inside n j k l b in
    whole ((k + 1) * 2 ^ j) (omega arith)

-- a mark inside the size is not cut, also where the bands come from a store after a change
pub kept : (mark y asked T U : ℕ) → mark ≡ y → mark ≤ 2 ^ min asked (4 * T) → U ≡ T → min mark (2 ^ min asked (4 * U)) ≡ y
kept mark y asked T U e l same = rw same (omega arith)

-- the mark 0 is not cut
pub no_mark : (x : ℕ) → min 0 x ≡ 0
no_mark x = omega arith
