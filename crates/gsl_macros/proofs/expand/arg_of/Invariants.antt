use Rattle.std.proofs.Common.{◌≡◌, length}
use Rattle.gsl_macros.specs.Expanding.{arg_of}
use Rattle.gsl_macros.proofs.expand.arg_of.Given as goal

abbrev pub invariant-loop-params : goal.invariant-loop-params
invariant-loop-params l = arg_of l.params l.args l.name ≡ arg_of l.initial.params l.initial.args l.name

abbrev pub decreases-loop-params : goal.decreases-loop-params
decreases-loop-params l = length l.params
