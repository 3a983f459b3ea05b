use Rattle.std.proofs.Common.{◌≡◌, ◌++◌, length}
use Rattle.gsl_valid_blocks.specs.Guards.{rows_from}
use Rattle.gsl_valid_blocks.proofs.guards.rows_among.Given as goal

abbrev pub invariant-loop-op : goal.invariant-loop-op
invariant-loop-op l = l.rows.items ++ rows_from l.decorations l.kind l.each ≡ rows_from l.decorations l.kind l.fn.each

abbrev pub decreases-loop-op : goal.decreases-loop-op
decreases-loop-op l = length l.each
