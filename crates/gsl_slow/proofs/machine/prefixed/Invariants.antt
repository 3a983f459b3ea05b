use Rattle.std.proofs.Common.{◌≡◌, drop}
use Rattle.gsl_cmd.specs.Sections.{begin_with, operands}
use Rattle.gsl_slow.proofs.machine.prefixed.Given as goal

abbrev pub invariant-loop-i : goal.invariant-loop-i
invariant-loop-i l = operands l.opcode (begin_with l.prefix) (drop l.i l.instrs) ≡ operands l.opcode (begin_with l.prefix) l.instrs
