use Rattle.std.proofs.Common.{◌≡◌, map, take}
use Rattle.gsl_link_units.specs.Types.{retyped}
use Rattle.gsl_link_whole.proofs.parts.retyped_locals.Given as goal

abbrev pub invariant-loop-k : goal.invariant-loop-k
invariant-loop-k l = l.all ≡ map (retyped l.structs) (take l.k l.locals)
