use Rattle.std.proofs.Common.{◌≡◌, ◌++◌, take}
use Rattle.gsl_asm.specs.Words.{escaped}
use Rattle.gsl_asm.proofs.showing.put_escaped.Given as goal

abbrev pub invariant-loop-byte : goal.invariant-loop-byte
invariant-loop-byte l = l.out ≡ l.initial.out ++ escaped (take l.byte-index l.text)
