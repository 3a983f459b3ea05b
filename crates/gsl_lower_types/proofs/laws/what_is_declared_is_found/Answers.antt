use Rattle.gsl_lower_types.proofs.Programs.{program_declares}
use Rattle.gsl_lower_types.proofs.laws.what_is_declared_is_found.Goals as goal

pub returns-clause-found : goal.returns-clause-found
returns-clause-found c = λ p known then_known before after made. (program_declares p known before (tt, then_known) after made).found

pub returns-clause-whole : goal.returns-clause-whole
returns-clause-whole c = λ p known then_known before after made. (program_declares p known before (tt, then_known) after made).whole
