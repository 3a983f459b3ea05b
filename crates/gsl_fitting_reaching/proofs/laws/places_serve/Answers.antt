use Rattle.gsl_fitting_reaching.proofs.Serving.{may_point, may_read, may_store, may_update}
use Rattle.gsl_fitting_reaching.proofs.laws.places_serve.Goals as goal

pub returns-clause-reads : goal.returns-clause-reads
returns-clause-reads c = may_read

pub returns-clause-stores : goal.returns-clause-stores
returns-clause-stores c = may_store

pub returns-clause-updates : goal.returns-clause-updates
returns-clause-updates c = may_update

pub returns-clause-points : goal.returns-clause-points
returns-clause-points c = may_point
