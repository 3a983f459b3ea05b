use Rattle.std.proofs.Common.{◌≡◌, map, take}
use Rattle.gsl_link_units.specs.Structs as spec
use Rattle.gsl_link_structs.proofs.structs.retyped_members.Given as goal

abbrev pub invariant-loop-k : goal.invariant-loop-k
invariant-loop-k l = l.all ≡ map (spec.retyped_member l.fn.numbers) (take l.k l.fn.members)
