use Rattle.std.proofs.Common.{◌≡◌, max, drop}
use Rattle.gsl_link_calls.specs.Table as spec
use Rattle.gsl_link_calls.proofs.table.heads_of.Given as goal

abbrev pub invariant-loop-k : goal.invariant-loop-k
invariant-loop-k l = max l.heads (spec.heads_of (drop l.k l.functions)) ≡ spec.heads_of l.functions
