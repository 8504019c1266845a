use Rattle.std.proofs.Common.{◌≡◌, true, ◌^◌, ◌-◌, take, min}
use Rattle.std.specs.Char.{is_ascii_digit}
use Rattle.std.specs.List.{list_all}
use Rattle.std.specs.Str.Parse.{digits_value}
use Rattle.shell.proofs.words.read_number.Given as goal

abbrev pub invariant-digits : goal.invariant-digits
invariant-digits l =
    record {
      digits : list_all is_ascii_digit (take l.digit-index l.digits) ≡ true;
      value : l.n ≡ min (2 ^ 64 - 1) (digits_value 10 (take l.digit-index l.digits));
    }
