use Rattle.std.proofs.Common.{◌≡◌, [], ◌∷◌, length}
use Rattle.gsl_blocks.specs.Around.{outside}
use Rattle.gsl_blocks.specs.Order.{run}
use Rattle.gsl_blocks.specs.Reading.{reads, IsShallow}
use Rattle.gsl_blocks.proofs.order.read_all.Given as goal

abbrev pub invariant-loop-block : goal.invariant-loop-block
invariant-loop-block l = (reads l.fn.labels.keys l.fn.first l.blocks l.stack l.deepest ≡ reads l.fn.labels.keys l.fn.first l.fn.blocks (run l.fn.first outside ∷ []) 0) × IsShallow (length l.blocks) l.stack

abbrev pub decreases-loop-block : goal.decreases-loop-block
decreases-loop-block l = length l.blocks
