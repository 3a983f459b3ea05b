use Rattle.std.proofs.Common.{◌≡◌, drop}
use Rattle.gsl_lower_expr.specs.Rows.{count_splits}
use Rattle.gsl_lower_needs.specs.Coming.{keeps_all, passes_all, sequence_of}
use Rattle.gsl_lower_needs.proofs.asker.Asker.+expressions.Given as goal

abbrev pub invariant-keeps-loop-k : goal.invariant-keeps-loop-k
invariant-keeps-loop-k l = (l.left ≡ count_splits (drop l.k l.es)) × (keeps_all l.self.prototypes.now (drop l.k l.es) l.needs ≡ keeps_all l.self.prototypes.now l.es l.initial.needs)

abbrev pub invariant-sequence-loop-k : goal.invariant-sequence-loop-k
invariant-sequence-loop-k l = sequence_of l.self.prototypes.now (drop l.k l.items) l.needs ≡ sequence_of l.self.prototypes.now l.items l.initial.needs

abbrev pub invariant-passes_all-loop-k : goal.invariant-passes_all-loop-k
invariant-passes_all-loop-k l = (l.left ≡ count_splits (drop l.k l.es)) × (passes_all l.self.prototypes.now (drop l.k l.es) (drop l.k l.params) l.needs ≡ passes_all l.self.prototypes.now l.es l.params l.initial.needs)
