use Rattle.std.proofs.Common.{arith, rules}
use Rattle.gsl_text.proofs.Splitting.{cr_there, cr_none}
use Rattle.gsl_text.proofs.lines.without_cr.Goals as goal

pub returns-in-13 : goal.returns-in-13
returns-in-13 c = cr_there c.args.piece.now (omega arith) (search rules)

pub returns-in_default-2 : goal.returns-in_default-2
returns-in_default-2 c = cr_none c.args.piece.now (omega arith) (search rules)
