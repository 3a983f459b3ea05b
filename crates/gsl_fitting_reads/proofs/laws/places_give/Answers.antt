use Rattle.gsl_fitting_reads.proofs.Reading.{access_evaluates}
use Rattle.gsl_fitting_reads.proofs.laws.places_give.Goals as goal

pub returns : goal.returns
returns c = access_evaluates
