use Rattle.std.proofs.Common.{◌≡◌, drop}
use Rattle.gsl_check_decl.specs.Structs.{with_lines}
use Rattle.gsl_check_decl.proofs.structs.push_lines.Given as goal

abbrev pub invariant-loop-k : goal.invariant-loop-k
invariant-loop-k l = with_lines l.fn.env l.fn.lines l.fn.members ≡ with_lines l.fn.env (drop l.k l.fn.lines) l.members
