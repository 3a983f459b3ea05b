use Rattle.gsl_fold.proofs.Drawn.{gives_known, known_gives}
use Rattle.gsl_fold.proofs.laws.known_whatever_the_choices.Goals as goal

pub returns-clause-known : goal.returns-clause-known
returns-clause-known c = known_gives

pub returns-clause-only : goal.returns-clause-only
returns-clause-only c = gives_known
