use Rattle.std.proofs.Common.{◌∙◌, ap, sym}
use Rattle.gsl_validate.specs.Rest.{from_3}
use Rattle.gsl_validate.proofs.Steps.{told, kept, answered, steps_1}
use Rattle.gsl_validate.proofs.judging.broken.Goals as goal

pub returns-in-Some : goal.returns-in-Some
returns-in-Some c = told 1 _ (c.in-Some.ensures) ∙ steps_1 c.args.of.now

pub returns-in-Some-again : goal.returns-in-Some-again
returns-in-Some-again c = told 2 (from_3 c.args.of.now) (sym c.in-Some-again.is ∙ c.in_ok-again.ensures) ∙ kept 1 _ (c.in-None.ensures) ∙ steps_1 c.args.of.now

pub returns : goal.returns
returns c = answered c.broken_on_ids.result (ap from_3 c.in_ok-definitions.ensures ∙ kept 2 (from_3 c.args.of.now) (sym c.in-None-again.is ∙ c.in_ok-again.ensures) ∙ kept 1 _ (c.in-None.ensures) ∙ steps_1 c.args.of.now) c.broken_on_ids.ensures
