use Rattle.std.proofs.Common.{◌≡◌, drop}
use Rattle.gsl_check_decl.specs.Structs.{with_names}
use Rattle.gsl_check_decl.proofs.structs.push_names.Given as goal

abbrev pub invariant-loop-k : goal.invariant-loop-k
invariant-loop-k l = with_names l.fn.env l.fn.base l.fn.names l.fn.members ≡ with_names l.fn.env l.fn.base (drop l.k l.fn.names) l.members
