use Rattle.gsl_fitting_sections.proofs.Kept.{sections_none}
use Rattle.gsl_fitting_sections.proofs.laws.sections_are_in_order.Goals as goal

pub returns : goal.returns
returns c = sections_none
