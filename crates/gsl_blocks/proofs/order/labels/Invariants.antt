use Rattle.std.proofs.Common.{◌≡◌, length}
use Rattle.gsl_blocks.specs.Blocks.{labels}
use Rattle.gsl_blocks.specs.Targets.{once, once_from}
use Rattle.gsl_blocks.proofs.order.labels.Given as goal

abbrev pub invariant-loop-block : goal.invariant-loop-block
invariant-loop-block l = once_from l.labels.keys (labels l.blocks) ≡ once (labels l.fn.blocks)

abbrev pub decreases-loop-block : goal.decreases-loop-block
decreases-loop-block l = length l.blocks
