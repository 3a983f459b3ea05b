use Rattle.gsl_region.proofs.Focus.{read_at}
use Rattle.gsl_region.proofs.laws.parts_are_read.Goals as goal

pub returns-clause-within : goal.returns-clause-within
returns-clause-within c words path variables number v shows is leads = (read_at words variables number v path shows is leads).0

pub returns-clause-words : goal.returns-clause-words
returns-clause-words c words path variables number v shows is leads = (read_at words variables number v path shows is leads).1
