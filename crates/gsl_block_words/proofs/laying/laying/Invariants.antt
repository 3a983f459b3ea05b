use Rattle.std.proofs.Common.{◌≡◌, ◌++◌, drop}
use Rattle.gsl_tree.specs.Laying.{members_of, placings_of}
use Rattle.gsl_block_words.proofs.laying.laying.Given as goal

abbrev pub invariant-loop-k : goal.invariant-loop-k
invariant-loop-k l =
    (l.all.members ++ members_of (drop l.k l.fn.members) ≡ members_of l.fn.members)
    × (l.all.placings ++ placings_of (drop l.k l.fn.members) ≡ placings_of l.fn.members)
