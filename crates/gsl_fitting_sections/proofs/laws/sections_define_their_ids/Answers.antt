use Rattle.gsl_fitting_sections.proofs.Kept.{once_none, uses_none}
use Rattle.gsl_fitting_sections.proofs.laws.sections_define_their_ids.Goals as goal

pub returns-clause-once : goal.returns-clause-once
returns-clause-once c = once_none

pub returns-clause-before : goal.returns-clause-before
returns-clause-before c = uses_none
