use Rattle.gsl_form.proofs.Units.{one_program}
use Rattle.gsl_form.proofs.laws.one_program.Goals as goal

pub returns : goal.returns
returns c = one_program
