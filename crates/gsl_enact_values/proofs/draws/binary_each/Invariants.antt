use Rattle.std.proofs.Common.{drop}
use Rattle.gsl_values.specs.Vectors.{binary_each}
use Rattle.gsl_compute.proofs.Loops.{RunsOn}
use Rattle.gsl_enact_values.proofs.draws.binary_each.Given as goal

abbrev pub invariant-loop-k : goal.invariant-loop-k
invariant-loop-k l = RunsOn l.given (binary_each l.op l.signed (drop l.k l.xs) (drop l.k l.ys) l.choices) (binary_each l.op l.signed l.xs l.ys l.initial.choices)
