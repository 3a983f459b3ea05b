use Rattle.gsl_lower_law_outputs.proofs.Outs.{outputs_are}
use Rattle.gsl_lower_law_outputs.proofs.laws.outputs_stand.Goals as goal

pub returns : goal.returns
returns c = outputs_are
