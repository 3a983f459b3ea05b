use Rattle.gsl_fold.proofs.Drawn.{differs_free, draws_free, free_draws}
use Rattle.gsl_fold.proofs.laws.left_open_where_choices_count.Goals as goal

pub returns-clause-differs : goal.returns-clause-differs
returns-clause-differs c = differs_free

pub returns-clause-draws : goal.returns-clause-draws
returns-clause-draws c = draws_free

pub returns-clause-only : goal.returns-clause-only
returns-clause-only c = free_draws
