use Rattle.std.proofs.Common.{◌≡◌, drop}
use Rattle.gsl_cmd.specs.Machine.{from_label}
use Rattle.gsl_slow.proofs.machine.label_from.Given as goal

abbrev pub invariant-loop-i : goal.invariant-loop-i
invariant-loop-i l = from_label (drop l.i l.instrs) ≡ from_label (drop l.from l.instrs)
