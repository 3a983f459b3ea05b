use Rattle.gsl_lower_law_body.proofs.Bodied.{body_does}
use Rattle.gsl_lower_law_body.proofs.laws.bodies_do.Goals as goal

pub returns : goal.returns
returns c = body_does
