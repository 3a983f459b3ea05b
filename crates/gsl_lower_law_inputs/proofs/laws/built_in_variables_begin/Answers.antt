use Rattle.gsl_lower_law_inputs.proofs.Begun.{stages_begin}
use Rattle.gsl_lower_law_inputs.proofs.laws.built_in_variables_begin.Goals as goal

pub returns : goal.returns
returns c = stages_begin
