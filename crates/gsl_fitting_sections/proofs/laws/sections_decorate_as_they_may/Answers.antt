use Rattle.gsl_fitting_sections.proofs.Kept.{decorations_none, layouts_none}
use Rattle.gsl_fitting_sections.proofs.laws.sections_decorate_as_they_may.Goals as goal

pub returns-clause-marks : goal.returns-clause-marks
returns-clause-marks c = decorations_none

pub returns-clause-layouts : goal.returns-clause-layouts
returns-clause-layouts c = layouts_none
