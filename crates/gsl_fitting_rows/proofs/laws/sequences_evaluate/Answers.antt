use Rattle.gsl_fitting_rows.proofs.Operands.{sequence_evaluates}
use Rattle.gsl_fitting_rows.proofs.laws.sequences_evaluate.Goals as goal

pub returns : goal.returns
returns c = sequence_evaluates
