use Rattle.gsl_fitting_steps.proofs.Giving.{giving_keeps, putting_keeps}
use Rattle.gsl_fitting_steps.proofs.laws.instructions_keep.Goals as goal

pub returns-clause-giving : goal.returns-clause-giving
returns-clause-giving c = giving_keeps

pub returns-clause-putting : goal.returns-clause-putting
returns-clause-putting c = putting_keeps
