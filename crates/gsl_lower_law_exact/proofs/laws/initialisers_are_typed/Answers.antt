use Rattle.gsl_lower_law_exact.proofs.Initialised.{all_initialised}
use Rattle.gsl_lower_law_exact.proofs.laws.initialisers_are_typed.Goals as goal

pub returns : goal.returns
returns c = all_initialised
