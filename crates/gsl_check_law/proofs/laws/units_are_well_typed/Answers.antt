use Rattle.gsl_check_law.proofs.Wholes.{checked_is}
use Rattle.gsl_check_law.proofs.laws.units_are_well_typed.Goals as goal

pub returns : goal.returns
returns c = checked_is
