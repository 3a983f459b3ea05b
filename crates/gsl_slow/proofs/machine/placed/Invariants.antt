use Rattle.std.proofs.Common.{◌≡◌, drop}
use Rattle.gsl_cmd.specs.Sections.{has_at, operands}
use Rattle.gsl_slow.proofs.machine.placed.Given as goal

abbrev pub invariant-loop-i : goal.invariant-loop-i
invariant-loop-i l = operands l.opcode (has_at l.at l.word) (drop l.i l.instrs) ≡ operands l.opcode (has_at l.at l.word) l.instrs
