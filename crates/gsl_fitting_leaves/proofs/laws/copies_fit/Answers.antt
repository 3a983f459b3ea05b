use Rattle.gsl_fitting_leaves.proofs.Copying.{read_whole_comes, read_whole_sorts, store_whole_comes, store_whole_sorts}
use Rattle.gsl_fitting_leaves.proofs.laws.copies_fit.Goals as goal

pub returns-clause-out_sorts : goal.returns-clause-out_sorts
returns-clause-out_sorts c = read_whole_sorts

pub returns-clause-out_comes : goal.returns-clause-out_comes
returns-clause-out_comes c = read_whole_comes

pub returns-clause-in_sorts : goal.returns-clause-in_sorts
returns-clause-in_sorts c = store_whole_sorts

pub returns-clause-in_comes : goal.returns-clause-in_comes
returns-clause-in_comes c = store_whole_comes
