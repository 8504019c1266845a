-- A command that was encoded is decoded.
use Rattle.std.proofs.Common.{◌≡◌, ℕ, ◌+◌, ◌*◌, ◌/◌, ◌%◌, ◌^◌, ◌<◌, cond, eqb, ltb, List, ◌++◌, length, ℤ, pos, negsuc, Err, Result, ap, ◌∙◌, arith}
use Rattle.std.proofs.lemmas.Bool.Decides.{nat_tests}
use Rattle.wire.specs.Decode.{big_endian, twos_complement}
use Rattle.wire.specs.Encode.{four_bytes, bits_of, encode, InRangeSigned, DecodesEncoded}
use Rattle.wire.specs.declared.command.Command.TheVariants.{Grow, Begin, Value, Finish, GiveUp, Add, Point, Sum, Mean}
use Rattle.wire.specs.declared.command.DecodeFault.{DecodeFault}
use Rattle.wire.specs.declared.command.DecodeFault.TheVariants.{Cut}

-- bytes that are neither empty nor cut at w operand bytes
whole : {X : Type 0} (bs : List ℕ) (w : ℕ) {x : Result X DecodeFault} → w < length bs → cond (eqb (length bs) 0) (Err Cut) (cond (ltb (length bs) (1 + w)) (Err Cut) x) ≡ x
whole bs w h = grind (arith, nat_tests)

number_back : (n : ℕ) → n < 2 ^ 32 → n / 2 ^ 24 * 2 ^ 24 + n / 2 ^ 16 % 2 ^ 8 * 2 ^ 16 + n / 2 ^ 8 % 2 ^ 8 * 2 ^ 8 + n % 2 ^ 8 ≡ n
number_back n h = omega arith

bits_fit : (z : ℤ) → InRangeSigned z → bits_of z < 2 ^ 32
bits_fit (pos n) h = omega arith
bits_fit (negsuc n) h = omega arith

bits_back : (z : ℤ) → InRangeSigned z → twos_complement (bits_of z) ≡ z
bits_back (pos n) h = grind (arith, nat_tests)
bits_back (negsuc n) h = grind (arith, nat_tests)

value_back : (z : ℤ) → InRangeSigned z → twos_complement (big_endian (four_bytes (bits_of z)) 0) ≡ z
value_back z h = ap twos_complement (number_back (bits_of z) (bits_fit z h)) ∙ bits_back z h

pub decodes_encoded : DecodesEncoded
decodes_encoded Grow rest r = whole (encode Grow ++ rest) 0 (omega arith)
decodes_encoded (Begin level index) rest r = whole (encode (Begin level index) ++ rest) 5 (omega arith) ∙ cc (number_back index r.1)
decodes_encoded (Value value) rest r = whole (encode (Value value) ++ rest) 4 (omega arith) ∙ cc (value_back value r)
decodes_encoded Finish rest r = whole (encode Finish ++ rest) 0 (omega arith)
decodes_encoded GiveUp rest r = whole (encode GiveUp ++ rest) 0 (omega arith)
decodes_encoded (Add minute value) rest r =
    whole (encode (Add minute value) ++ rest) 8 (omega arith) ∙ cc (number_back minute r.0, value_back value r.1)
decodes_encoded (Point minute) rest r = whole (encode (Point minute) ++ rest) 4 (omega arith) ∙ cc (number_back minute r)
decodes_encoded (Sum from to) rest r =
    whole (encode (Sum from to) ++ rest) 8 (omega arith) ∙ cc (number_back from r.0, number_back to r.1)
decodes_encoded (Mean from to) rest r =
    whole (encode (Mean from to) ++ rest) 8 (omega arith) ∙ cc (number_back from r.0, number_back to r.1)
