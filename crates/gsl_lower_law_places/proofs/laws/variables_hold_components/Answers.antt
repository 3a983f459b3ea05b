use Rattle.gsl_lower_law_places.proofs.Variables.{variable_components}
use Rattle.gsl_lower_law_places.proofs.laws.variables_hold_components.Goals as goal

pub returns : goal.returns
returns c = λ m input state number path old v shape there at is. variable_components m input state number path old v shape there at is
