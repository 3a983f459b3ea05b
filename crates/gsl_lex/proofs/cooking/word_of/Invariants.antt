use Rattle.std.proofs.Common.{◌≡◌, ◌<◌, ◌^◌, drop}
use Rattle.gsl_lex.specs.Literals.{word_of}
use Rattle.gsl_lex.proofs.Values.{word_on}
use Rattle.gsl_lex.proofs.cooking.word_of.Given as goal

abbrev pub invariant-loop-digit : goal.invariant-loop-digit
invariant-loop-digit l = (word_on l.fn.base l.value (drop l.digit-index l.fn.digits) ≡ word_of l.fn.base l.fn.digits) × (l.value < 2 ^ 32)
