use Rattle.std.proofs.Common.{◌≡◌, ◌≤◌, min, [], take, drop, length}
use Rattle.gsl_layout.specs.Measures.{misplaced_in, placed_members}
use Rattle.gsl_layout.specs.Outlines.{most_told}
use Rattle.gsl_layout.specs.Placings.{end_of, first_misplaced, last_first}
use Rattle.gsl_layout.proofs.misplaced.first_misplaced.Given as goal

abbrev pub invariant-loop-k : goal.invariant-loop-k
invariant-loop-k g l =
    (l.end ≡ min (end_of (last_first [] (placed_members (g.R.Rules.raised l.rules) l.structs (take l.k l.members) l.placings))) most_told)
    × (misplaced_in (g.R.Rules.raised l.rules) l.structs l.members l.placings
    ≡ first_misplaced (last_first [] (placed_members (g.R.Rules.raised l.rules) l.structs (take l.k l.members) l.placings)) l.k (placed_members (g.R.Rules.raised l.rules) l.structs (drop l.k l.members) (drop l.k l.placings)))
    × (l.k ≤ length l.members)
