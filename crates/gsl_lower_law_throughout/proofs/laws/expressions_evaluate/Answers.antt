use Rattle.gsl_lower_law_shader.specs.OfLawEvaluated.{Asks}
use Rattle.gsl_lower_law_shader.proofs.OfLawEvaluated.{expr_evaluates}
use Rattle.gsl_lower_law_throughout.proofs.Holding.{expression}
use Rattle.gsl_lower_law_throughout.proofs.laws.expressions_evaluate.Goals as goal

pub returns : goal.returns
returns c m input whole f p params locals call stage calls e typed none is sound asks =
    expr_evaluates m input whole f p params locals call stage calls e typed none is sound (expression p.prototypes (Asks m input whole f p params locals call stage calls) e asks)
