use Rattle.gsl_typed_constants.proofs.Initialised.{initialised}
use Rattle.gsl_typed_constants.proofs.laws.initialisers_have_their_types.Goals as goal

pub returns : goal.returns
returns c = initialised
