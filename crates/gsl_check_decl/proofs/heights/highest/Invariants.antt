use Rattle.std.proofs.Common.{◌≡◌, ◌≤◌, drop, max}
use Rattle.gsl_types.specs.Structs.{members_meaning}
use Rattle.gsl_tree.specs.Weights.{height_meaning, highest}
use Rattle.gsl_check_decl.proofs.heights.highest.Given as goal

abbrev pub invariant-loop-k : goal.invariant-loop-k
invariant-loop-k l =
    (highest (members_meaning height_meaning l.fn.env.scene.structs l.fn.members) ≡ max l.top (highest (members_meaning height_meaning l.fn.env.scene.structs (drop l.k l.fn.members))))
    × (l.top ≤ l.fn.most)
