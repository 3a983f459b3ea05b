use Rattle.gsl_lower_law_outputs.proofs.Functions.{declares_none_behind}
use Rattle.gsl_lower_law_outputs.proofs.laws.functions_declare_no_outputs.Goals as goal

pub returns : goal.returns
returns c = declares_none_behind
