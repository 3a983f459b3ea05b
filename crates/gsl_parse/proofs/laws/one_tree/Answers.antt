use Rattle.gsl_expr.proofs.Complete.{only_expr}
use Rattle.std.proofs.Common.{arith}
use Rattle.gsl_parse.proofs.OneTree.{one_unit}
use Rattle.gsl_parse.proofs.laws.one_tree.Goals as goal

pub returns : goal.returns
returns c = record { units = one_unit; expressions = λ ts a b x y. only_expr (omega arith) x y }
