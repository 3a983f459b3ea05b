use Rattle.std.proofs.Common.{◌≡◌, ◌+◌, length, reverse}
use Rattle.std.specs.List.{prefix_len}
use Rattle.gsl_pp.specs.Unit.{goes_on_line}
use Rattle.gsl_pp.proofs.feed.line_len.Given as goal

abbrev pub invariant-loop-left : goal.invariant-loop-left
invariant-loop-left l = (prefix_len goes_on_line (reverse l.left) + l.count ≡ prefix_len goes_on_line l.fn.rest) × (length l.left + l.count ≡ length l.fn.rest)

abbrev pub decreases-loop-left : goal.decreases-loop-left
decreases-loop-left l = length l.left
