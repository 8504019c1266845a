use Rattle.std.proofs.Common.{◌≡◌, ℕ, ◌+◌, ◌-◌, ◌*◌, ◌^◌, ◌<◌, ◌≤◌, min, get_or, take, length, ◌&&◌, sym, ap, ap₂, ◌∙◌, arith, rules}
use Rattle.std.specs.Char.{is_ascii_digit, digit_value}
use Rattle.std.specs.Str.Parse.{digits_value}
use Rattle.std.proofs.lemmas.Bool.Decides.{nat_tests}
use Rattle.std.proofs.lemmas.Int.Digits.{digits_value_more}
use Rattle.std.proofs.lemmas.List.Folds.{list_all_more}
use Rattle.shell.proofs.words.read_number.Goals as goal

capped_more : (limit v d n k a : ℕ) → n ≡ min limit v → k ≡ min (n * 10) limit → a ≡ min (k + d) limit → a ≡ min limit (v * 10 + d)
capped_more limit v d n k a held tenfold more = omega (arith, held, tenfold, more)

digit_is : (c : ℕ) → 48 ≤ c → c ≤ 57 → digit_value c ≡ c - 48
digit_is c low high = grind (arith, nat_tests)

pub digits-preserved : goal.digits-preserved
digits-preserved c =
    let i = c.digits.digit-index in
    let ds = c.args.digits.now in
    let limit = 2 ^ 64 - 1 in
    let b = get_or ds i 0 in
    let here : i < length ds = search rules in
    let is = c.if-not-is_ascii_digit.ensures in
    record {
      digits = list_all_more is_ascii_digit ds i 0 here ∙ ap₂ (λ x y. x && y) c.digits.invariant.digits (sym is.value);
      value =
          capped_more limit (digits_value 10 (take i ds)) c.from.result _ _ _ c.digits.invariant.value c.saturating_mul.ensures c.saturating_add-n.ensures
          ∙ ap (λ (d : ℕ). min limit (digits_value 10 (take i ds) * 10 + d)) (c.from.ensures ∙ sym (digit_is b (omega (arith, is.cases)) (omega (arith, is.cases))))
          ∙ ap (λ (v : ℕ). min limit v) (sym (digits_value_more 10 ds i here));
    }
