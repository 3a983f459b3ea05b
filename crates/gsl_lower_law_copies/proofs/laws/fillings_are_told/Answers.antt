use Rattle.gsl_lower_law_copies.proofs.ToldStructs.{values_told}
use Rattle.gsl_lower_law_copies.proofs.laws.fillings_are_told.Goals as goal

pub returns : goal.returns
returns c = λ structs ty old v are is typed worded. values_told structs ty are is old v typed worded
