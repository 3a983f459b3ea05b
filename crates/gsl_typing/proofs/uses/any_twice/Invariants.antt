use Rattle.std.proofs.Common.{◌≡◌, drop}
use Rattle.gsl_tree.specs.Paths.{repeats}
use Rattle.gsl_typing.proofs.uses.any_twice.Given as goal

-- The rest repeats a position where all do.
abbrev pub invariant-loop-k : goal.invariant-loop-k
invariant-loop-k l = repeats l.positions ≡ repeats (drop l.k l.positions)
