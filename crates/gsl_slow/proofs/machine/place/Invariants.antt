use Rattle.std.proofs.Common.{◌≡◌, ◌+◌, drop}
use Rattle.gsl_cmd.specs.Machine.{words_of}
use Rattle.gsl_slow.proofs.machine.place.Given as goal

abbrev pub invariant-loop-i : goal.invariant-loop-i
invariant-loop-i l = l.words + words_of (drop l.i l.m.instrs) ≡ 5 + words_of l.m.instrs
