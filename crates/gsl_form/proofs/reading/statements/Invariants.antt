use Rattle.std.proofs.Common.{◌≡◌, ◌++◌, drop}
use Rattle.std.specs.Option.{option_map}
use Rattle.gsl_form.specs.Reading as spec
use Rattle.gsl_form.proofs.reading.statements.Given as goal

abbrev pub invariant-loop-tree : goal.invariant-loop-tree
invariant-loop-tree l = option_map (λ rest. l.all ++ rest) (spec.each (spec.statement_of l.count) (drop l.tree-index l.trees)) ≡ spec.each (spec.statement_of l.count) l.trees
