use Rattle.std.proofs.Common.{◌≡◌, drop, ◌++◌, length}
use Rattle.gsl_makers.specs.Constructors.{all_serve}
use Rattle.gsl_makers.proofs.constructors.all_serve.Given as goal

abbrev pub invariant-loop-k : goal.invariant-loop-k
invariant-loop-k l = all_serve l.fn.element l.fn.args ≡ all_serve l.fn.element (drop l.k l.fn.args)
