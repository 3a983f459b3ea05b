use Rattle.std.proofs.Common.{◌≡◌, drop, false}
use Rattle.gsl_check_decl.specs.Locals.{qualified_from}
use Rattle.gsl_check_decl.proofs.locals.qualified.Given as goal

abbrev pub invariant-loop-k : goal.invariant-loop-k
invariant-loop-k l = qualified_from l.fn.env false l.fn.quals ≡ qualified_from l.fn.env l.fixed (drop l.k l.fn.quals)
