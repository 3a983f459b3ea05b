use Rattle.std.proofs.Common.{◌≡◌, map, take}
use Rattle.gsl_tree.specs.declared.stmt.Arm.{Arm}
use Rattle.gsl_tree.specs.declared.stmt.Stmt.{Stmt}
use Rattle.gsl_tree.specs.declared.stmt.Stmt.TheFolds.{fold-Arm}
use Rattle.gsl_link_whole.specs.Renumbering as spec
use Rattle.gsl_link_whole.proofs.stmts.+stmts.Given as goal

abbrev pub invariant-each-loop-k : goal.invariant-each-loop-k
invariant-each-loop-k l = l.all ≡ map (spec.renumbered_stmt l.n) (take l.k l.stmts)

abbrev pub invariant-each_arm-loop-k : goal.invariant-each_arm-loop-k
invariant-each_arm-loop-k l = l.all ≡ map (fold-Arm Stmt Arm (spec.renumbered_form l.n) spec.renumbered_arm) (take l.k l.arms)
