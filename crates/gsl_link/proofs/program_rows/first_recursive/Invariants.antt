use Rattle.std.proofs.Common.{◌≡◌, drop}
use Rattle.gsl_link_calls.specs.Calls as calls
use Rattle.gsl_link.specs.Finding as finding
use Rattle.gsl_link.proofs.program_rows.first_recursive.Given as goal

abbrev pub invariant-loop-k : goal.invariant-loop-k
invariant-loop-k l = finding.first_where (λ f. calls.reaches l.graph f.prototype f.prototype) (drop l.k l.functions) ≡ finding.first_where (λ f. calls.reaches l.graph f.prototype f.prototype) l.functions
