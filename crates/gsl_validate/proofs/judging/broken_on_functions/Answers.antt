use Rattle.std.proofs.Common.{◌∙◌, ap, sym}
use Rattle.gsl_valid.specs.FunctionRules.{function_shape}
use Rattle.gsl_valid.specs.CallRules.{calls}
use Rattle.gsl_valid.specs.StructureRules.{structure}
use Rattle.gsl_valid.specs.LocalityRules.{locality}
use Rattle.gsl_validate.specs.Rest.{from_14}
use Rattle.gsl_validate.proofs.Steps.{told, kept, answered, steps_10}
use Rattle.gsl_validate.proofs.judging.broken_on_functions.Goals as goal

pub returns-in-Some : goal.returns-in-Some
returns-in-Some c = told 10 _ (c.in-Some.ensures ∙ ap function_shape c.definitions-definitions.ensures) ∙ steps_10 c.args.marks.now

pub returns-in-Some-call : goal.returns-in-Some-call
returns-in-Some-call c = told 11 _ (sym c.in-Some-call.is ∙ c.in_ok-call.ensures ∙ ap calls c.definitions-definitions.ensures) ∙ kept 10 _ (c.in-None.ensures ∙ ap function_shape c.definitions-definitions.ensures) ∙ steps_10 c.args.marks.now

pub returns-in-Some-block : goal.returns-in-Some-block
returns-in-Some-block c = told 12 _ (sym c.in-Some-block.is ∙ c.in_ok-block.ensures ∙ ap structure (c.module.ensures ∙ c.definitions-definitions.ensures)) ∙ kept 11 _ (sym c.in-None-call.is ∙ c.in_ok-call.ensures ∙ ap calls c.definitions-definitions.ensures) ∙ kept 10 _ (c.in-None.ensures ∙ ap function_shape c.definitions-definitions.ensures) ∙ steps_10 c.args.marks.now

pub returns-in-Some-locality : goal.returns-in-Some-locality
returns-in-Some-locality c = told 13 (from_14 c.args.marks.now) (c.in-Some-locality.ensures ∙ ap locality c.definitions-definitions.ensures) ∙ kept 12 _ (sym c.in-None-block.is ∙ c.in_ok-block.ensures ∙ ap structure (c.module.ensures ∙ c.definitions-definitions.ensures)) ∙ kept 11 _ (sym c.in-None-call.is ∙ c.in_ok-call.ensures ∙ ap calls c.definitions-definitions.ensures) ∙ kept 10 _ (c.in-None.ensures ∙ ap function_shape c.definitions-definitions.ensures) ∙ steps_10 c.args.marks.now

pub returns : goal.returns
returns c = answered c.broken_on_values.result (kept 13 (from_14 c.args.marks.now) (c.in-None-locality.ensures ∙ ap locality c.definitions-definitions.ensures) ∙ kept 12 _ (sym c.in-None-block.is ∙ c.in_ok-block.ensures ∙ ap structure (c.module.ensures ∙ c.definitions-definitions.ensures)) ∙ kept 11 _ (sym c.in-None-call.is ∙ c.in_ok-call.ensures ∙ ap calls c.definitions-definitions.ensures) ∙ kept 10 _ (c.in-None.ensures ∙ ap function_shape c.definitions-definitions.ensures) ∙ steps_10 c.args.marks.now) c.broken_on_values.ensures
