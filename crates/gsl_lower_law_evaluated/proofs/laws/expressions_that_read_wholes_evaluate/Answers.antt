use Rattle.gsl_lower_law_evaluated.proofs.Unread.{unread_evaluates}
use Rattle.gsl_lower_law_evaluated.proofs.laws.expressions_that_read_wholes_evaluate.Goals as goal

pub returns : goal.returns
returns c = λ m input whole f p params locals call stage calls e types vectors knows is sound asks.
    unread_evaluates m input whole f p params locals call stage calls types vectors knows e is sound asks
