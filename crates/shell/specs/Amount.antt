-- The amount of a trend as text: the shortest decimal that reads back as the same number, without an exponent.
--
-- whole x, part x        the whole part of x, and the rest of it in units of 2^-19: no amount is a finer fraction
-- scaled x p             x in units of 10^-p, to the nearest, and to the even one of two as near
-- places p n             the last p digits of n
-- decimal_text p n       n / 10^p with p decimal places
-- rounded x p            x with p decimal places
-- reads_back x t         the text t is read as a number equal to x
-- amount_text x          x with the fewest decimal places that read back as x, of at most 19
use Rattle.std.specs.Prelude.{ℕ, zero, suc, ◌+◌, ◌*◌, ◌/◌, ◌%◌, ◌^◌, false, Bool, cond, List, [], ◌∷◌, ◌++◌, pos, Some, None, Option, Float, nat_lt, ◌==◌}
use Rattle.std.specs.Fmt.{decimal}
use Rattle.std.specs.Int.{w64}
use Rattle.std.specs.Float.{binary64, float_to_unsigned}
use Rattle.std.specs.Float.Ieee.{eq, sub, mul, of_int}
use Rattle.std.specs.Float.Parse.{parse_float}

abbrev pub whole : Float → ℕ
whole x = float_to_unsigned w64 x

abbrev pub part : Float → ℕ
part x = float_to_unsigned w64 (mul binary64 (sub binary64 x (of_int binary64 (pos (whole x)))) (of_int binary64 (pos (2 ^ 19))))

-- the whole number nearest to a / b
abbrev pub nearest : ℕ → ℕ → ℕ → ℕ
nearest even a b = a / b + cond (nat_lt b (2 * (a % b))) 1 (cond (2 * (a % b) == b) ((even % 2 + a / b) % 2) 0)

abbrev pub scaled : Float → ℕ → ℕ
scaled x p = whole x * 10 ^ p + nearest (whole x * 10 ^ p) (part x * 10 ^ p) (2 ^ 19)

abbrev pub places : ℕ → ℕ → List ℕ
places zero n = []
places (suc p) n = decimal (n / 10 ^ p % 10) ++ places p n

abbrev pub decimal_text : ℕ → ℕ → List ℕ
decimal_text p n = decimal (n / 10 ^ p) ++ cond (p == 0) [] (46 ∷ places p n)

abbrev pub rounded : Float → ℕ → List ℕ
rounded x p = decimal_text p (scaled x p)

abbrev pub equals : Float → Option Float → Bool
equals x (Some y) = eq y x
equals x None = false

abbrev pub reads_back : Float → List ℕ → Bool
reads_back x t = equals x (parse_float binary64 t)

-- from p places on, k more at most
unfoldable pub amount_from : ℕ → ℕ → Float → List ℕ
amount_from zero p x = rounded x p
amount_from (suc k) p x = cond (reads_back x (rounded x p)) (rounded x p) (amount_from k (p + 1) x)

abbrev pub amount_text : Float → List ℕ
amount_text x = amount_from 19 0 x
