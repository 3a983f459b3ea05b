use Rattle.std.proofs.Common.{◌≡◌, [], drop}
use Rattle.gsl_link.specs.Finding as finding
use Rattle.gsl_link.proofs.program_rows.first_again.Given as goal

abbrev pub invariant-loop-k : goal.invariant-loop-k
invariant-loop-k l = finding.first_again l.heads.keys (drop l.k l.functions) ≡ finding.first_again [] l.functions
