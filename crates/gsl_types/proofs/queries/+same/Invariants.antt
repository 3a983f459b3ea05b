use Rattle.std.proofs.Common.{◌≡◌, ◌+◌, ◌*◌, ◌↔◌, drop}
use Rattle.gsl_types.specs.declared.ty.Ty.TheVariants as ty
use Rattle.gsl_types.specs.Spelling.{spelling, chained}
use Rattle.gsl_types.specs.Structs.{members_meaning}
use Rattle.gsl_types.proofs.Sizes.{size}
use Rattle.gsl_types.proofs.queries.+same.Given as goal

abbrev pub decreases-same : goal.decreases-same
decreases-same l = 2 * size l.structs.now l.a.now + 1

abbrev pub decreases-same_structs : goal.decreases-same_structs
decreases-same_structs l = 2 * size l.structs.now (ty.Struct l.i)

abbrev pub invariant-same_structs-loop-k : goal.invariant-same_structs-loop-k
invariant-same_structs-loop-k l =
    (chained (members_meaning spelling l.structs l.a.members) ≡ chained (members_meaning spelling l.structs l.b.members))
    ↔ (chained (members_meaning spelling l.structs (drop l.k l.a.members)) ≡ chained (members_meaning spelling l.structs (drop l.k l.b.members)))
