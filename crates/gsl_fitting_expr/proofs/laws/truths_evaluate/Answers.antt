use Rattle.gsl_fitting_expr.proofs.Operands.{both_evaluates, short_evaluates}
use Rattle.gsl_fitting_expr.proofs.laws.truths_evaluate.Goals as goal

pub returns-clause-both : goal.returns-clause-both
returns-clause-both c = both_evaluates

pub returns-clause-short : goal.returns-clause-short
returns-clause-short c = short_evaluates
