use Rattle.gsl_typed_law.proofs.Conversions.{converted_same, step_typed}
use Rattle.gsl_typed_law.proofs.laws.conversions_and_steps_keep_types.Goals as goal

pub returns-clause-converts : goal.returns-clause-converts
returns-clause-converts c = converted_same

pub returns-clause-steps : goal.returns-clause-steps
returns-clause-steps c = step_typed
