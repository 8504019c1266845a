use Rattle.std.proofs.Common.{◌≡◌, ℕ, ◌+◌, ◌-◌, ◌*◌, ◌^◌, ◌<◌, ◌≤◌, min, get_or, take, length, ◌&&◌, sym, ap, ap₂, ◌∙◌, arith, rules}
use Rattle.std.specs.Char.{is_ascii_digit, digit_value}
use Rattle.std.specs.Str.Parse.{digits_value}
use Rattle.std.proofs.lemmas.Bool.Decides.{nat_tests}
use Rattle.std.proofs.lemmas.Int.Digits.{digits_value_more}
use Rattle.std.proofs.lemmas.List.Folds.{list_all_more}
use Rattle.notation.proofs.fields.read_number.Goals as goal

capped_more : (limit v d : ℕ) → min (min limit v * 10 + d) limit ≡ min limit (v * 10 + d)
capped_more limit v d = omega arith

digit_is : (c : ℕ) → 48 ≤ c → c ≤ 57 → digit_value c ≡ c - 48
digit_is c low high = grind (arith, nat_tests)

pub digits-preserved : goal.digits-preserved
digits-preserved c =
    let i = c.digits.digit-index in
    let ds = c.args.digits.now in
    let limit = 2 ^ 32 in
    let b = get_or ds i 0 in
    let here : i < length ds = search rules in
    let is = c.if-not-is_ascii_digit.ensures in
    record {
      digits = list_all_more is_ascii_digit ds i 0 here ∙ ap₂ (λ x y. x && y) c.digits.invariant.digits (sym is.value);
      value =
          c.min-n.ensures
          ∙ ap₂ (λ (m d : ℕ). min (m * 10 + d) limit) c.digits.invariant.value (c.from.ensures ∙ sym (digit_is b (omega (arith, is.cases)) (omega (arith, is.cases))))
          ∙ capped_more limit (digits_value 10 (take i ds)) (digit_value b)
          ∙ ap (λ (v : ℕ). min limit v) (sym (digits_value_more 10 ds i here));
    }
