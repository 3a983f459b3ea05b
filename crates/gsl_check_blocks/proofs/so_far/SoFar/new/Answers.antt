use Rattle.std.proofs.Common.{refl}
use Rattle.gsl_check_blocks.proofs.Behind.{stands_empty}
use Rattle.gsl_check_blocks.proofs.so_far.SoFar.new.Goals as goal

pub returns-clause-stand : goal.returns-clause-stand
returns-clause-stand c = stands_empty c.args.std140 c.args.structs.now _ c.new.ensures c.new-2.ensures c.in_ok-outlines_of.ensures.outlined c.in_ok-outlines_of.ensures.all refl
