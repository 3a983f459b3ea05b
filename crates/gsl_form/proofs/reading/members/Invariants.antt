use Rattle.std.proofs.Common.{◌≡◌, ◌++◌, drop}
use Rattle.std.specs.Option.{option_map}
use Rattle.gsl_form.specs.Reading as spec
use Rattle.gsl_form.proofs.reading.members.Given as goal

abbrev pub invariant-loop-tree : goal.invariant-loop-tree
invariant-loop-tree l = option_map (λ rest. l.names ++ rest) (spec.each spec.member_of (drop l.tree-index l.trees)) ≡ spec.each spec.member_of l.trees
