use Rattle.gsl_memory_law.proofs.Typed.{front_typed, more_typed, place_stays}
use Rattle.gsl_memory_law.proofs.laws.functions_begin_and_end.Goals as goal

pub returns-clause-begin : goal.returns-clause-begin
returns-clause-begin c = more_typed

pub returns-clause-end : goal.returns-clause-end
returns-clause-end c = front_typed

pub returns-clause-same : goal.returns-clause-same
returns-clause-same c = place_stays
