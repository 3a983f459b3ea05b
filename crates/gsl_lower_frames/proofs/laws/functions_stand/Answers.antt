use Rattle.gsl_lower_frames.proofs.Found.{code_found, code_short}
use Rattle.gsl_lower_frames.proofs.laws.functions_stand.Goals as goal

pub returns-clause-found : goal.returns-clause-found
returns-clause-found c = λ m id code once s. code_found m id code once s

pub returns-clause-short : goal.returns-clause-short
returns-clause-short c = λ m id code s. code_short m id code s
