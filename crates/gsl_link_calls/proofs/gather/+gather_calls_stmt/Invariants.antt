use Rattle.std.proofs.Common.{◌≡◌, drop}
use Rattle.gsl_link_calls.specs.Gathering as spec
use Rattle.gsl_link_calls.specs.Gathering.{in_turn}
use Rattle.gsl_link_calls.proofs.gather.+gather_calls_stmt.Given as goal

abbrev pub invariant-stmts_gathered-loop-k : goal.invariant-stmts_gathered-loop-k
invariant-stmts_gathered-loop-k l = in_turn spec.stmt_gathered l.calls (drop l.k l.stmts) ≡ in_turn spec.stmt_gathered l.initial.calls l.stmts

abbrev pub invariant-arms_gathered-loop-k : goal.invariant-arms_gathered-loop-k
invariant-arms_gathered-loop-k l = in_turn spec.arm_gathered l.calls (drop l.k l.arms) ≡ in_turn spec.arm_gathered l.initial.calls l.arms
