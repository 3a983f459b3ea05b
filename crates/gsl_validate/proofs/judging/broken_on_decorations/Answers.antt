use Rattle.std.proofs.Common.{◌∙◌, ap, sym}
use Rattle.gsl_validate.specs.Rest.{from_10}
use Rattle.gsl_validate.proofs.Steps.{told, kept, answered, steps_7}
use Rattle.gsl_validate.proofs.judging.broken_on_decorations.Goals as goal

pub returns-in-Some : goal.returns-in-Some
returns-in-Some c = told 7 _ (sym c.in-Some.is ∙ c.in_ok-decoration.ensures) ∙ steps_7 c.args.marks.now

pub returns-in-Some-layout : goal.returns-in-Some-layout
returns-in-Some-layout c = told 8 _ (sym c.in-Some-layout.is ∙ c.in_ok-layout.ensures) ∙ kept 7 _ (sym c.in-None.is ∙ c.in_ok-decoration.ensures) ∙ steps_7 c.args.marks.now

pub returns-in-Some-begin : goal.returns-in-Some-begin
returns-in-Some-begin c = told 9 (from_10 c.args.marks.now) (sym c.in-Some-begin.is ∙ c.in_ok-begin.ensures) ∙ kept 8 _ (sym c.in-None-layout.is ∙ c.in_ok-layout.ensures) ∙ kept 7 _ (sym c.in-None.is ∙ c.in_ok-decoration.ensures) ∙ steps_7 c.args.marks.now

pub returns : goal.returns
returns c = answered c.broken_on_functions.result (kept 9 (from_10 c.args.marks.now) (sym c.in-None-begin.is ∙ c.in_ok-begin.ensures) ∙ kept 8 _ (sym c.in-None-layout.is ∙ c.in_ok-layout.ensures) ∙ kept 7 _ (sym c.in-None.is ∙ c.in_ok-decoration.ensures) ∙ steps_7 c.args.marks.now) c.broken_on_functions.ensures
