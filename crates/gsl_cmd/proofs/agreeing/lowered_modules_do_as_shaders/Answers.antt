use Rattle.gsl_cmd.proofs.Meant.{lowered_does}
use Rattle.gsl_cmd.proofs.agreeing.lowered_modules_do_as_shaders.Goals as goal

pub returns : goal.returns
returns c = lowered_does
