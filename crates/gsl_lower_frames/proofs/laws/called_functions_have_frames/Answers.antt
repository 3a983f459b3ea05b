use Rattle.gsl_lower_frames.proofs.Calls.{called_framed}
use Rattle.gsl_lower_frames.proofs.laws.called_functions_have_frames.Goals as goal

pub returns : goal.returns
returns c = λ m whole input id before code behind place stages held waiting state valid written s is passed known. called_framed m whole input id before code behind place stages held waiting state valid written s is passed known
