use Rattle.std.proofs.Common.{◌≡◌, map, length}
use Rattle.gsl_check_heads.specs.Builtins.{among}
use Rattle.gsl_check_heads.proofs.builtin.is_among.Given as goal

abbrev pub invariant-loop-rows : goal.invariant-loop-rows
invariant-loop-rows l = among (map (λ row. row.0.now) l.rows) l.name ≡ among (map (λ row. row.0.now) l.initial.rows) l.name

abbrev pub decreases-loop-rows : goal.decreases-loop-rows
decreases-loop-rows l = length l.rows
