use Rattle.gsl_lower_law_body.specs.Asking.{AsksAt}
use Rattle.gsl_lower_law_body.proofs.Bodied.{statement_does}
use Rattle.gsl_lower_law_throughout.proofs.Holding.{statement}
use Rattle.gsl_lower_law_throughout.proofs.laws.statements_do.Goals as goal

pub returns : goal.returns
returns c m input sections f p around lower means locals exits s asks = statement_does m input sections f p around lower means locals exits s (statement (AsksAt m input sections f p around lower means locals) exits s asks)
