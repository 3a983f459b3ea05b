use Rattle.std.proofs.Common.{◌≡◌, not, drop}
use Rattle.std.specs.Prelude.{bytes_eq}
use Rattle.gsl_link.specs.Finding as finding
use Rattle.gsl_link.proofs.program_rows.first_other.Given as goal

abbrev pub invariant-loop-k : goal.invariant-loop-k
invariant-loop-k l = finding.first_size (λ other. not (bytes_eq other.parts l.size.parts)) (drop l.k l.sizes) ≡ finding.first_size (λ other. not (bytes_eq other.parts l.size.parts)) (drop 1 l.sizes)
