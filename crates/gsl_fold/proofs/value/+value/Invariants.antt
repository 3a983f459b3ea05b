use Rattle.std.proofs.Common.{◌≡◌, drop}
use Rattle.gsl_tree.specs.Constants.{gives_all}
use Rattle.gsl_fold.specs.Answers.{with_front}
use Rattle.gsl_fold.proofs.value.+value.Given as goal

abbrev pub invariant-values-loop-k : goal.invariant-values-loop-k
invariant-values-loop-k l = with_front l.given (gives_all l.consts (drop l.k l.es) l.choices) ≡ gives_all l.consts l.es l.initial.choices
