use Rattle.gsl_fitting_indexes.proofs.Indexing.{indexed_reaches}
use Rattle.gsl_fitting_indexes.proofs.laws.indexes_reach.Goals as goal

pub returns : goal.returns
returns c = indexed_reaches
