use Rattle.std.proofs.Common.{IsTrue, length}
use Rattle.gsl_types.specs.Known.{IsSound}
use Rattle.gsl_layout.specs.Extents.{plain}
use Rattle.gsl_folds.proofs.structs.member_type.Given as goal

abbrev pub invariant-loop-count : goal.invariant-loop-count
invariant-loop-count l = IsSound (length l.fn.structs) l.ty × IsTrue (plain l.ty)
