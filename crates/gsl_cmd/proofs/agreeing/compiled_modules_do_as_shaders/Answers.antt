use Rattle.gsl_cmd.proofs.Meant.{compiled_does}
use Rattle.gsl_cmd.proofs.agreeing.compiled_modules_do_as_shaders.Goals as goal

pub returns : goal.returns
returns c = compiled_does
