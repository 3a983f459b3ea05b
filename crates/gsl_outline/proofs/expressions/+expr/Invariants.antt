use Rattle.std.proofs.Common.{◌+◌, ◌*◌}
use Rattle.gsl_outline.proofs.expressions.+expr.Given as goal

abbrev pub decreases-expr_within : goal.decreases-expr_within
decreases-expr_within l = 4 * l.depth

abbrev pub decreases-exprs : goal.decreases-exprs
decreases-exprs l = 4 * l.depth + 1

abbrev pub decreases-further : goal.decreases-further
decreases-further l = 4 * l.depth + 1

abbrev pub decreases-dims_within : goal.decreases-dims_within
decreases-dims_within l = 4 * l.depth + 1

abbrev pub decreases-type_within : goal.decreases-type_within
decreases-type_within l = 4 * l.depth + 2

abbrev pub decreases-one : goal.decreases-one
decreases-one l = 4 * l.depth + 1

abbrev pub decreases-two : goal.decreases-two
decreases-two l = 4 * l.depth + 1

abbrev pub decreases-choice : goal.decreases-choice
decreases-choice l = 4 * l.depth + 1

abbrev pub decreases-member : goal.decreases-member
decreases-member l = 4 * l.depth + 1

abbrev pub decreases-call : goal.decreases-call
decreases-call l = 4 * l.depth + 3
