use Rattle.gsl_fitting_places.proofs.Components.{update_reads, update_stores}
use Rattle.gsl_fitting_places.proofs.laws.updates_serve.Goals as goal

pub returns-clause-reads : goal.returns-clause-reads
returns-clause-reads c = update_reads

pub returns-clause-stores : goal.returns-clause-stores
returns-clause-stores c = update_stores
