use Rattle.std.proofs.Common.{◌≡◌, false, drop}
use Rattle.gsl_asm.specs.Escapes.{raw_len}
use Rattle.gsl_asm.proofs.Quotes.{shifted}
use Rattle.gsl_asm.proofs.chars.raw_len.Given as goal

abbrev pub invariant-loop-i : goal.invariant-loop-i
invariant-loop-i l = shifted l.i (raw_len l.behind (drop l.i l.bytes)) ≡ raw_len false l.bytes
