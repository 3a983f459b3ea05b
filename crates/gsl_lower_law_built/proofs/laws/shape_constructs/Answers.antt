use Rattle.gsl_lower_law_built.proofs.Filling.{shape_constructs}
use Rattle.gsl_lower_law_built.proofs.laws.shape_constructs.Goals as goal

pub returns : goal.returns
returns c = shape_constructs
