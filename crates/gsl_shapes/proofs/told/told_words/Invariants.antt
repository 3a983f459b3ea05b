use Rattle.std.proofs.Common.{◌≡◌, drop, ◌++◌, map}
use Rattle.gsl_meaning.specs.Accesses.{told_scalar}
use Rattle.gsl_shapes.proofs.told.told_words.Given as goal

abbrev pub invariant-loop-k : goal.invariant-loop-k
invariant-loop-k l = l.all ++ map (told_scalar l.scalar) (drop l.k l.parts) ≡ map (told_scalar l.scalar) l.parts
