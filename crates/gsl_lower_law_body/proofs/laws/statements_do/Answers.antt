use Rattle.gsl_lower_law_body.proofs.Bodied.{statement_does}
use Rattle.gsl_lower_law_body.proofs.laws.statements_do.Goals as goal

pub returns : goal.returns
returns c = statement_does
