use Rattle.std.proofs.Common.{◌≡◌, drop}
use Rattle.gsl_weights.specs.Telling.{in_turn}
use Rattle.gsl_weights.specs.Weighing.{stmt_weighed, arm_weighed}
use Rattle.gsl_weights.proofs.statements.+stmt.Given as goal

abbrev pub invariant-stmts_weighed-loop-k : goal.invariant-stmts_weighed-loop-k
invariant-stmts_weighed-loop-k l = in_turn (stmt_weighed l.structs) l.total (drop l.k l.stmts) ≡ in_turn (stmt_weighed l.structs) l.fn.so_far l.stmts

abbrev pub invariant-arms_weighed-loop-k : goal.invariant-arms_weighed-loop-k
invariant-arms_weighed-loop-k l = in_turn (arm_weighed l.structs) l.total (drop l.k l.arms) ≡ in_turn (arm_weighed l.structs) l.fn.so_far l.arms
