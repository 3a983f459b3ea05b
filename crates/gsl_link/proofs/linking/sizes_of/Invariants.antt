use Rattle.std.proofs.Common.{◌≡◌, ◌++◌, drop}
use Rattle.gsl_link_numbers.specs.Numbering.{sizes_in}
use Rattle.gsl_link.proofs.linking.sizes_of.Given as goal

abbrev pub invariant-loop-k : goal.invariant-loop-k
invariant-loop-k l = l.all ++ sizes_in (drop l.k l.sides) ≡ sizes_in l.fn.sides
