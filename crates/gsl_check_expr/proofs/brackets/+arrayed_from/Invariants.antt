use Rattle.std.proofs.Common.{◌-◌, length}
use Rattle.gsl_check_expr.proofs.brackets.+arrayed_from.Given as goal

abbrev pub decreases-arrayed_from : goal.decreases-arrayed_from
decreases-arrayed_from l = length l.sizes.now - l.at
