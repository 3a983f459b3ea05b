use Rattle.std.proofs.Common.{◌∙◌, ap, sym}
use Rattle.gsl_validate.specs.Rest.{from_7}
use Rattle.gsl_validate.proofs.Steps.{told, kept, answered, steps_5}
use Rattle.gsl_validate.proofs.judging.broken_on_types.Goals as goal

pub returns-in-Some : goal.returns-in-Some
returns-in-Some c = told 5 _ (c.in-Some.ensures) ∙ steps_5 c.args.runtimes.now

pub returns-in-Some-globals : goal.returns-in-Some-globals
returns-in-Some-globals c = told 6 (from_7 c.args.runtimes.now) (c.in-Some-globals.ensures) ∙ kept 5 _ (c.in-None.ensures) ∙ steps_5 c.args.runtimes.now

pub returns : goal.returns
returns c = answered c.broken_on_decorations.result (ap from_7 (c.in_ok-marks.ensures ∙ c.definitions.ensures) ∙ kept 6 (from_7 c.args.runtimes.now) (c.in-None-globals.ensures) ∙ kept 5 _ (c.in-None.ensures) ∙ steps_5 c.args.runtimes.now) c.broken_on_decorations.ensures
