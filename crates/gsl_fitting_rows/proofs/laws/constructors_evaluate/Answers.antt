use Rattle.gsl_fitting_rows.proofs.Operands.{built_evaluates, together_evaluates}
use Rattle.gsl_fitting_rows.proofs.laws.constructors_evaluate.Goals as goal

pub returns-clause-built : goal.returns-clause-built
returns-clause-built c = built_evaluates

pub returns-clause-together : goal.returns-clause-together
returns-clause-together c = together_evaluates
