use Rattle.std.proofs.Common.{◌≡◌, ◌<◌, ◌^◌, true, take}
use Rattle.std.specs.Str.Parse.{digits_value}
use Rattle.gsl_text.specs.Numbers.{are_digits}
use Rattle.gsl_text.proofs.numbers.natural.Given as goal

abbrev pub invariant-loop-byte : goal.invariant-loop-byte
invariant-loop-byte l = record {
  value : l.value ≡ digits_value l.base (take l.byte-index l.digits);
  fits : l.value < 2 ^ 32;
  all : are_digits l.base (take l.byte-index l.digits) ≡ true;
}
