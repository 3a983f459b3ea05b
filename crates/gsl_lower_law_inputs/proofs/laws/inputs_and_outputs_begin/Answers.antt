use Rattle.gsl_lower_law_inputs.proofs.Begun.{interfaces_begin}
use Rattle.gsl_lower_law_inputs.proofs.laws.inputs_and_outputs_begin.Goals as goal

pub returns : goal.returns
returns c = interfaces_begin
