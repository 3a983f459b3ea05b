use Rattle.std.proofs.Common.{◌≡◌, ◌++◌, take}
use Rattle.gsl_spv.proofs.finishing.append.Given as goal

abbrev pub invariant-loop-i : goal.invariant-loop-i
invariant-loop-i l = l.code ≡ l.initial.code ++ take l.i l.section
