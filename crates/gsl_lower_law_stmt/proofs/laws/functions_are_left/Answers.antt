use Rattle.gsl_lower_law_stmt.proofs.Exits.{return_does, return_nothing_does}
use Rattle.gsl_lower_law_stmt.proofs.laws.functions_are_left.Goals as goal

pub returns-clause-with_value : goal.returns-clause-with_value
returns-clause-with_value c = return_does

pub returns-clause-without : goal.returns-clause-without
returns-clause-without c = return_nothing_does
