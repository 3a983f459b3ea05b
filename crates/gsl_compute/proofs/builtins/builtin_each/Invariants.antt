use Rattle.std.proofs.Common.{◌≡◌, ◌-◌}
use Rattle.gsl_tree.specs.Operations.{builtin_each, first_count}
use Rattle.gsl_compute.proofs.Loops.{RunsOn}
use Rattle.gsl_compute.proofs.builtins.builtin_each.Given as goal

abbrev pub invariant-loop-k : goal.invariant-loop-k
invariant-loop-k l = (l.count ≡ first_count l.rows) × RunsOn l.given (builtin_each l.which l.signed l.rows (l.count - l.k) l.k l.choices) (builtin_each l.which l.signed l.rows l.count 0 l.initial.choices)
