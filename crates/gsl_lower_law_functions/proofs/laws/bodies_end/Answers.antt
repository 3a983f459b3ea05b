use Rattle.gsl_lower_law_functions.proofs.Ended.{body_does, void_body_does}
use Rattle.gsl_lower_law_functions.proofs.laws.bodies_end.Goals as goal

pub returns-clause-with_value : goal.returns-clause-with_value
returns-clause-with_value c = body_does

pub returns-clause-without : goal.returns-clause-without
returns-clause-without c = void_body_does
