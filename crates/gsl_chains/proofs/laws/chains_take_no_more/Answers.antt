use Rattle.gsl_chains.proofs.Chained.{bounded, reached}
use Rattle.gsl_chains.proofs.laws.chains_take_no_more.Goals as goal

pub returns-clause-bounds : goal.returns-clause-bounds
returns-clause-bounds c m of body bodies more chained few = bounded m of body bodies more chained few

pub returns-clause-reached : goal.returns-clause-reached
returns-clause-reached c m of body more = reached m of body more
