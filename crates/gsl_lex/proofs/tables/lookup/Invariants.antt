use Rattle.std.proofs.Common.{◌≡◌, map, length}
use Rattle.gsl_lex.specs.Tables.{lookup}
use Rattle.gsl_lex.proofs.tables.lookup.Given as goal

abbrev pub invariant-loop-rows : goal.invariant-loop-rows
invariant-loop-rows g l = lookup (map (λ row. (row.0.now, row.1)) l.rows) l.spelling ≡ lookup (map (λ row. (row.0.now, row.1)) l.initial.rows) l.spelling

abbrev pub decreases-loop-rows : goal.decreases-loop-rows
decreases-loop-rows g l = length l.rows
