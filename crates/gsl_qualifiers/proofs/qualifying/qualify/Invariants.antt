use Rattle.std.proofs.Common.{◌≡◌, drop}
use Rattle.gsl_qualifiers.specs.Qualifiers.{qualified_from, unsaid}
use Rattle.gsl_qualifiers.proofs.qualifying.qualify.Given as goal

abbrev pub invariant-loop-k : goal.invariant-loop-k
invariant-loop-k l = qualified_from l.fn.env l.fn.role l.said (drop l.k l.fn.quals) ≡ qualified_from l.fn.env l.fn.role unsaid l.fn.quals
