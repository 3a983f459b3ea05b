use Rattle.gsl_fitting_reads.proofs.Storing.{stores_flow}
use Rattle.gsl_fitting_reads.proofs.laws.places_take.Goals as goal

pub returns : goal.returns
returns c = stores_flow
