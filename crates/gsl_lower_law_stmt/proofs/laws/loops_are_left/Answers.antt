use Rattle.gsl_lower_law_stmt.proofs.Exits.{break_does, continue_does}
use Rattle.gsl_lower_law_stmt.proofs.laws.loops_are_left.Goals as goal

pub returns-clause-broke : goal.returns-clause-broke
returns-clause-broke c = break_does

pub returns-clause-continued : goal.returns-clause-continued
returns-clause-continued c = continue_does
