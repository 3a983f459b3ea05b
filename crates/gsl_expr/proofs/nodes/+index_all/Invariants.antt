use Rattle.std.proofs.Common.{length}
use Rattle.gsl_expr.proofs.nodes.+index_all.Given as goal

abbrev pub decreases-index_all : goal.decreases-index_all
decreases-index_all l = length l.dims
