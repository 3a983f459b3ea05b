use Rattle.gsl_check_expr.specs.Expressions.{expression, taken_expression}
use Rattle.gsl_check_law.specs.Parts.{IsPart, IsTaken}
use Rattle.gsl_check_law.proofs.Rows.{given}
use Rattle.gsl_check_law.proofs.Phrases.{answer_typed, taken_is}
use Rattle.gsl_check_law.proofs.laws.expressions_are_well_typed.Goals as goal

pub returns : goal.returns
returns c = record {
  whole = λ env e x fine formed is. given (IsPart env.scene) (expression env e) x (answer_typed env fine e formed) is;
  taken = λ env e x fine formed is. given (IsTaken env.scene) (taken_expression env e) x (taken_is env fine e formed) is;
}
