use Rattle.gsl_machine.proofs.Over.{stays_over}
use Rattle.gsl_machine.proofs.laws.what_is_over_stays_over.Goals as goal

pub returns : goal.returns
returns c m input count more over = stays_over m input count more over
