use Rattle.std.proofs.Common.{length}
use Rattle.gsl_cmd.proofs.lowering.+add_literals.Given as goal

abbrev pub decreases-add_literals : goal.decreases-add_literals
decreases-add_literals l = length l.terms.now
