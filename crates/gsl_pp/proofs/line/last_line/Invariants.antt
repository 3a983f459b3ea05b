use Rattle.std.proofs.Common.{◌≡◌, length}
use Rattle.gsl_pp.specs.Directives.{last_line}
use Rattle.gsl_pp.proofs.line.last_line.Given as goal

abbrev pub invariant-loop-rest : goal.invariant-loop-rest
invariant-loop-rest l = last_line l.last l.rest ≡ last_line l.initial.last l.initial.rest

abbrev pub decreases-loop-rest : goal.decreases-loop-rest
decreases-loop-rest l = length l.rest
