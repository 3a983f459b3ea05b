use Rattle.std.proofs.Common.{◌∙◌, ap, sym}
use Rattle.gsl_validate.specs.Rest.{from_5}
use Rattle.gsl_validate.proofs.Steps.{told, kept, answered, steps_3}
use Rattle.gsl_validate.proofs.judging.broken_on_ids.Goals as goal

pub returns-in-Some : goal.returns-in-Some
returns-in-Some c = told 3 _ (c.in-Some.ensures) ∙ steps_3 c.args.definitions.now

pub returns-in-Some-type_ : goal.returns-in-Some-type_
returns-in-Some-type_ c = told 4 (from_5 c.args.definitions.now) (sym c.in-Some-type_.is ∙ c.in_ok-type_.ensures) ∙ kept 3 _ (c.in-None.ensures) ∙ steps_3 c.args.definitions.now

pub returns : goal.returns
returns c = answered c.broken_on_types.result (ap from_5 c.in_ok-runtimes.ensures ∙ kept 4 (from_5 c.args.definitions.now) (sym c.in-None-type_.is ∙ c.in_ok-type_.ensures) ∙ kept 3 _ (c.in-None.ensures) ∙ steps_3 c.args.definitions.now) c.broken_on_types.ensures
