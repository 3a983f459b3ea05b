use Rattle.std.proofs.Common.{◌≡◌, drop}
use Rattle.gsl_link.specs.Finding as finding
use Rattle.gsl_link.specs.Rows as spec
use Rattle.gsl_link.proofs.program_rows.first_large.Given as goal

abbrev pub invariant-loop-k : goal.invariant-loop-k
invariant-loop-k l = finding.first_where (spec.is_large l.p) (drop l.k l.functions) ≡ finding.first_where (spec.is_large l.p) l.functions
