use Rattle.std.proofs.Common.{length}
use Rattle.gsl_form.proofs.reading.+differ.Given as goal

abbrev pub decreases-differ : goal.decreases-differ
decreases-differ l = length l.names.now
