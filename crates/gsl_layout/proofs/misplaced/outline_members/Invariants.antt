use Rattle.std.proofs.Common.{◌≡◌, ◌≤◌, min, [], take, length}
use Rattle.gsl_layout.specs.Measures.{placed_members}
use Rattle.gsl_layout.specs.Outlines.{most_told}
use Rattle.gsl_layout.specs.Placings.{end_of, largest_base, last_first}
use Rattle.gsl_layout.proofs.misplaced.outline_members.Given as goal

abbrev pub invariant-loop-k : goal.invariant-loop-k
invariant-loop-k g l =
    (l.end ≡ min (end_of (last_first [] (placed_members (g.R.Rules.raised l.rules) l.structs (take l.k l.members) []))) most_told)
    × (l.base ≡ largest_base (placed_members (g.R.Rules.raised l.rules) l.structs (take l.k l.members) [])) × (l.k ≤ length l.members)
