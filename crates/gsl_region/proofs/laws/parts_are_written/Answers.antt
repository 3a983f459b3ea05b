use Rattle.gsl_region.proofs.Focus.{written_at}
use Rattle.gsl_region.proofs.laws.parts_are_written.Goals as goal

pub returns : goal.returns
returns c words path variables number v new = written_at words variables number v new path
