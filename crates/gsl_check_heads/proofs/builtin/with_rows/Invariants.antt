use Rattle.std.proofs.Common.{◌≡◌, ◌≤◌, drop, map, length}
use Rattle.gsl_check_heads.specs.Builtins.{named}
use Rattle.gsl_check_heads.proofs.builtin.with_rows.Given as goal

abbrev pub invariant-loop-k : goal.invariant-loop-k
invariant-loop-k l = (l.names ≡ named (map (λ row. (row.0.now, row.1)) (drop l.k l.fn.rows)) l.fn.names) × (l.k ≤ length l.fn.rows)

abbrev pub decreases-loop-k : goal.decreases-loop-k
decreases-loop-k l = l.k
