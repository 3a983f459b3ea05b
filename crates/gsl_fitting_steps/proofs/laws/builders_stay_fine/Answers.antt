use Rattle.gsl_fitting_steps.proofs.Adding.{decorating_fine, importing_fine, naming_fine, putting_fine, taking_fine}
use Rattle.gsl_fitting_steps.proofs.Fine.{begun_fine, declaring_fine}
use Rattle.gsl_fitting_steps.proofs.laws.builders_stay_fine.Goals as goal

pub returns-clause-begun : goal.returns-clause-begun
returns-clause-begun c = begun_fine

pub returns-clause-taking : goal.returns-clause-taking
returns-clause-taking c = taking_fine

pub returns-clause-putting : goal.returns-clause-putting
returns-clause-putting c = putting_fine

pub returns-clause-declaring : goal.returns-clause-declaring
returns-clause-declaring c = declaring_fine

pub returns-clause-naming : goal.returns-clause-naming
returns-clause-naming c = naming_fine

pub returns-clause-decorating : goal.returns-clause-decorating
returns-clause-decorating c = decorating_fine

pub returns-clause-importing : goal.returns-clause-importing
returns-clause-importing c = importing_fine
