use Rattle.std.proofs.Common.{IsTrue, length}
use Rattle.std.specs.List.{AllByRecursion}
use Rattle.gsl_types.specs.Known.{IsSound}
use Rattle.gsl_types.specs.declared.ty.Member.{Member}
use Rattle.gsl_layout.specs.Extents.{plain}
use Rattle.gsl_folds.proofs.structs.plain_members.Given as goal

abbrev pub invariant-loop-word : goal.invariant-loop-word
invariant-loop-word l = AllByRecursion (λ (m : Member). IsSound (length l.fn.structs) m.ty) l.members × AllByRecursion (λ (m : Member). IsTrue (plain m.ty)) l.members
