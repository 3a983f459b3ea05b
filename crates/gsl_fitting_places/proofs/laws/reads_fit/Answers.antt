use Rattle.gsl_fitting_places.proofs.Parting.{read_fits, read_sorts}
use Rattle.gsl_fitting_places.proofs.laws.reads_fit.Goals as goal

pub returns-clause-sorts : goal.returns-clause-sorts
returns-clause-sorts c = read_sorts

pub returns-clause-comes : goal.returns-clause-comes
returns-clause-comes c = read_fits
