use Rattle.std.proofs.Common.{◌≡◌, drop, false, None}
use Rattle.gsl_check_heads.specs.Heads.{said_from}
use Rattle.gsl_check_heads.proofs.saying.said_in.Given as goal

abbrev pub invariant-loop-k : goal.invariant-loop-k
invariant-loop-k l = said_from l.fn.env l.said (drop l.k l.fn.quals) ≡ said_from l.fn.env (record { fixed = false; direction = None }) l.fn.quals
