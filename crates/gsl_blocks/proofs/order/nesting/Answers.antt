use Rattle.std.proofs.Common.{drop}
use Rattle.gsl_blocks.specs.Blocks.{blocks_of}
use Rattle.gsl_blocks.proofs.Decided.{answered}
use Rattle.gsl_blocks.proofs.order.nesting.Goals as goal

pub returns-clause-ordered : goal.returns-clause-ordered
returns-clause-ordered c = answered (blocks_of (drop c.args.at c.args.instrs.now)) c.in_ok-found.found c.in_ok-found.ensures
