use Rattle.gsl_lower_law_body.specs.Asking.{AsksAt}
use Rattle.gsl_lower_law_body.proofs.Bodied.{body_does}
use Rattle.gsl_lower_law_throughout.proofs.Holding.{body}
use Rattle.gsl_lower_law_throughout.proofs.laws.bodies_do.Goals as goal

pub returns : goal.returns
returns c m input sections f p around lower means locals exits ss asks = body_does m input sections f p around lower means locals exits ss (body (AsksAt m input sections f p around lower means locals) exits ss asks)
