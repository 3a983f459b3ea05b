use Rattle.std.proofs.Common.{◌≡◌, map, length}
use Rattle.gsl_asm.specs.Names.{lookup}
use Rattle.gsl_asm.proofs.names.lookup.Given as goal

abbrev pub invariant-loop-rows : goal.invariant-loop-rows
invariant-loop-rows g l = lookup (map (λ row. (row.0.now, row.1)) l.rows) l.name ≡ lookup (map (λ row. (row.0.now, row.1)) l.initial.rows) l.name

abbrev pub decreases-loop-rows : goal.decreases-loop-rows
decreases-loop-rows g l = length l.rows
