use Rattle.gsl_fitting_sections.proofs.Kept.{limits_none}
use Rattle.gsl_fitting_sections.proofs.laws.sections_are_within_limits.Goals as goal

pub returns : goal.returns
returns c = limits_none
