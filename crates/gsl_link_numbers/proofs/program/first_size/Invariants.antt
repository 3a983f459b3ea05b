use Rattle.std.proofs.Common.{◌≡◌, drop}
use Rattle.gsl_link_whole.specs.Whole as whole
use Rattle.gsl_link_numbers.specs.Numbering as spec
use Rattle.gsl_link_numbers.proofs.program.first_size.Given as goal

abbrev pub invariant-loop-k : goal.invariant-loop-k
invariant-loop-k l = whole.first_size (spec.sizes_in (drop l.k l.sides)) ≡ whole.first_size (spec.sizes_in l.sides)
