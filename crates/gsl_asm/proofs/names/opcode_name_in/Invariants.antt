use Rattle.std.proofs.Common.{◌≡◌, map, length}
use Rattle.gsl_asm.specs.Names.{name_in}
use Rattle.gsl_asm.proofs.names.opcode_name_in.Given as goal

abbrev pub invariant-loop-rows : goal.invariant-loop-rows
invariant-loop-rows l = name_in (map (λ row. (row.0.now, row.1)) l.rows) l.op ≡ name_in (map (λ row. (row.0.now, row.1)) l.initial.rows) l.op

abbrev pub decreases-loop-rows : goal.decreases-loop-rows
decreases-loop-rows l = length l.rows
