use Rattle.std.proofs.Common.{◌≡◌, drop, ◌++◌, length}
use Rattle.gsl_makers.specs.Constructors.{each_serves}
use Rattle.gsl_makers.proofs.constructors.each_serves.Given as goal

abbrev pub invariant-loop-k : goal.invariant-loop-k
invariant-loop-k l = each_serves l.fn.members l.fn.args ≡ each_serves (drop l.k l.fn.members) (drop l.k l.fn.args)
