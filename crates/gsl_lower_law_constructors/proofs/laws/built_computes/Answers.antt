use Rattle.gsl_lower_law_constructors.proofs.Builds.{built_computes as computes}
use Rattle.gsl_lower_law_constructors.proofs.laws.built_computes.Goals as goal

pub returns : goal.returns
returns c = λ m input whole shape args vs state before some serve stand. computes m input whole shape args vs state before some serve stand
