use Rattle.std.proofs.Common.{◌≤◌, ◌+◌, ◌*◌, take, length}
use Rattle.std.specs.List.{AllByRecursion}
use Rattle.gsl_types.specs.Leaves.{leaves_together}
use Rattle.gsl_types.specs.Structs.{members_meaning}
use Rattle.gsl_types.proofs.Sizes.{size, sizing}
use Rattle.gsl_layout.specs.Gathers.{Gathers}
use Rattle.gsl_layout.specs.Measures.{placed_members}
use Rattle.gsl_layout.proofs.Groups.{IsPlaced}
use Rattle.gsl_layout.proofs.measuring.+lay.Given as goal

abbrev pub decreases-lay_members : goal.decreases-lay_members
decreases-lay_members g l = 2 * leaves_together (members_meaning sizing l.structs.now l.members.now) + 1

abbrev pub decreases-lay_type : goal.decreases-lay_type
decreases-lay_type g l = 2 * size l.structs.now l.ty.now

abbrev pub invariant-lay_members-loop-k : goal.invariant-lay_members-loop-k
invariant-lay_members-loop-k g l =
    Gathers l.gathered (placed_members (g.R.Rules.raised l.rules) l.structs (take l.k l.members) l.placings) × AllByRecursion (IsPlaced (g.R.Rules.raised l.rules) l.structs) (take l.k l.members) × (l.k ≤ length l.members)
