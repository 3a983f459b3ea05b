use Rattle.gsl_fitting_reaching.proofs.Names.{block_reaches, named_reaches}
use Rattle.gsl_fitting_reaching.proofs.laws.names_reach.Goals as goal

pub returns-clause-named : goal.returns-clause-named
returns-clause-named c = named_reaches

pub returns-clause-in_blocks : goal.returns-clause-in_blocks
returns-clause-in_blocks c = block_reaches
