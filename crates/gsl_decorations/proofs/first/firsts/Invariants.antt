use Rattle.std.proofs.Common.{◌≡◌, ◌≤◌, length, drop}
use Rattle.indexmap.specs.IndexMap.{get}
use Rattle.gsl_decorations.specs.Firsts.{first_from}
use Rattle.gsl_decorations.proofs.first.firsts.Given as goal

abbrev pub invariant-loop-at : goal.invariant-loop-at
invariant-loop-at g l =
    (l.at ≤ length l.of.instrs)
    × ((key : g.row.K.Denot) → get g.K.PartialEq.eq l.rows key ≡ first_from (g.T.Keyed.has l.keyed key) l.at (drop l.at l.of.instrs))

abbrev pub decreases-loop-at : goal.decreases-loop-at
decreases-loop-at g l = l.at
