use Rattle.gsl_enact_memory.proofs.Joined.{counting_is, into_is, loading_is, storing_in_block, storing_in_variable}
use Rattle.gsl_enact_memory.proofs.laws.words_are_the_machines.Goals as goal

pub returns-clause-indexes : goal.returns-clause-indexes
returns-clause-indexes c = into_is

pub returns-clause-loads : goal.returns-clause-loads
returns-clause-loads c = loading_is

pub returns-clause-blocks : goal.returns-clause-blocks
returns-clause-blocks c = storing_in_block

pub returns-clause-variables : goal.returns-clause-variables
returns-clause-variables c = storing_in_variable

pub returns-clause-counts : goal.returns-clause-counts
returns-clause-counts c = counting_is
