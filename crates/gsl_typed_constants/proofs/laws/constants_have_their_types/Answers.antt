use Rattle.gsl_typed_constants.proofs.Drawn.{constant_typed}
use Rattle.gsl_typed_constants.proofs.laws.constants_have_their_types.Goals as goal

pub returns : goal.returns
returns c = constant_typed
