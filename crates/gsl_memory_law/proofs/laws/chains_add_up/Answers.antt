use Rattle.gsl_memory_law.proofs.Typed.{place_on, type_on}
use Rattle.gsl_memory_law.proofs.laws.chains_add_up.Goals as goal

pub returns-clause-place : goal.returns-clause-place
returns-clause-place c = place_on

pub returns-clause-part : goal.returns-clause-part
returns-clause-part c = type_on
