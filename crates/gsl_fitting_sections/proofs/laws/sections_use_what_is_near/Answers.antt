use Rattle.gsl_fitting_sections.proofs.Kept.{locality_none}
use Rattle.gsl_fitting_sections.proofs.laws.sections_use_what_is_near.Goals as goal

pub returns : goal.returns
returns c = locality_none
