use Rattle.gsl_fitting_types.proofs.Knowing.{global_is, global_outside, put_is}
use Rattle.gsl_fitting_types.proofs.laws.sections_tell.Goals as goal

pub returns-clause-declared : goal.returns-clause-declared
returns-clause-declared c = global_is

pub returns-clause-outside : goal.returns-clause-outside
returns-clause-outside c = global_outside

pub returns-clause-put : goal.returns-clause-put
returns-clause-put c = put_is
