use Rattle.gsl_lower_law_inputs.proofs.Begun.{globals_begin}
use Rattle.gsl_lower_law_inputs.proofs.laws.global_variables_begin.Goals as goal

pub returns : goal.returns
returns c = globals_begin
