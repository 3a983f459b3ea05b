use Rattle.gsl_fitting_rows.proofs.Operands.{called_evaluates}
use Rattle.gsl_fitting_rows.proofs.laws.calls_of_builtins_evaluate.Goals as goal

pub returns : goal.returns
returns c = called_evaluates
