use Rattle.std.proofs.Common.{◌≡◌, drop}
use Rattle.gsl_meaning.specs.Expressions.{all_back as back}
use Rattle.gsl_perform.proofs.arguments.all_back.Given as goal

abbrev pub invariant-loop-k : goal.invariant-loop-k
invariant-loop-k l = back (drop l.k l.passed) (drop l.k l.values) l.store ≡ back l.passed l.values l.initial.store
