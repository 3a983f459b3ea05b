use Rattle.std.proofs.Common.{◌≡◌, drop}
use Rattle.gsl_instr.specs.declared.op.TheConstants as op
use Rattle.gsl_cmd.specs.Sections.{has_at, operands}
use Rattle.gsl_slow.proofs.machine.members.Given as goal

abbrev pub invariant-loop-i : goal.invariant-loop-i
invariant-loop-i l = operands op.TYPE_STRUCT (has_at 0 l.of) (drop l.i l.instrs) ≡ operands op.TYPE_STRUCT (has_at 0 l.of) l.instrs
