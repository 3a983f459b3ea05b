use Rattle.gsl_conditions.proofs.Grammatical.{read_is_condition, condition_reads}
use Rattle.gsl_conditions.proofs.laws.conditions_are_read.Goals as goal

pub returns-clause-read : goal.returns-clause-read
returns-clause-read c = read_is_condition

pub returns-clause-all : goal.returns-clause-all
returns-clause-all c = condition_reads
