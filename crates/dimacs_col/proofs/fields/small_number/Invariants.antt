use Rattle.std.proofs.Common.{◌≡◌, ◌<◌, ◌^◌, take, drop}
use Rattle.std.specs.Str.{all_ascii_digits}
use Rattle.std.specs.Str.Parse.{digits_value}
use Rattle.dimacs_col.proofs.fields.small_number.Given as goal

-- the value of the digits so far, and whether the others are digits decides
abbrev pub invariant-loop-digit : goal.invariant-loop-digit
invariant-loop-digit l = record {
  small : l.value < 2 ^ 32;
  value : l.value ≡ digits_value 10 (take l.digit-index l.field);
  digits : all_ascii_digits l.field ≡ all_ascii_digits (drop l.digit-index l.field);
}
