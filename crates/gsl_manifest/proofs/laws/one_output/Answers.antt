use Rattle.gsl_manifest.proofs.Told.{told}
use Rattle.gsl_manifest.proofs.laws.one_output.Goals as goal

pub returns : goal.returns
returns c = told
