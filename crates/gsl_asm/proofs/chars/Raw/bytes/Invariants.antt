use Rattle.std.proofs.Common.{◌≡◌, ◌++◌, false, length}
use Rattle.gsl_asm.specs.Escapes.{unescaped}
use Rattle.gsl_asm.proofs.chars.Raw.bytes.Given as goal

abbrev pub invariant-loop-byte : goal.invariant-loop-byte
invariant-loop-byte l = l.out ++ unescaped false l.rest ≡ l.self

abbrev pub decreases-loop-byte : goal.decreases-loop-byte
decreases-loop-byte l = length l.rest
