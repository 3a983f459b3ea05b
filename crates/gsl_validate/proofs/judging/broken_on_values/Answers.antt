use Rattle.std.proofs.Common.{◌∙◌, ap, sym}
use Rattle.gsl_valid.specs.OperandRules.{operand_types}
use Rattle.gsl_valid.specs.MemoryRules.{memory}
use Rattle.gsl_valid.specs.ReturnRules.{returns as returns_rule}
use Rattle.gsl_valid.specs.ExtendedRules.{extended}
use Rattle.gsl_valid.specs.LimitRules.{limits}
use Rattle.gsl_validate.proofs.Steps.{told, kept, steps_14}
use Rattle.gsl_validate.proofs.judging.broken_on_values.Goals as goal

pub returns-in-Some : goal.returns-in-Some
returns-in-Some c = told 14 _ (c.in-Some.ensures ∙ ap operand_types c.definitions-definitions.ensures) ∙ steps_14 c.args.marks.now

pub returns-in-Some-access : goal.returns-in-Some-access
returns-in-Some-access c = told 15 _ (sym c.in-Some-access.is ∙ c.in_ok-access.ensures ∙ ap memory (sym c.requires.same)) ∙ kept 14 _ (c.in-None.ensures ∙ ap operand_types c.definitions-definitions.ensures) ∙ steps_14 c.args.marks.now

pub returns-in-Some-returns : goal.returns-in-Some-returns
returns-in-Some-returns c = told 16 _ (c.in-Some-returns.ensures ∙ ap returns_rule c.definitions-definitions.ensures) ∙ kept 15 _ (sym c.in-None-access.is ∙ c.in_ok-access.ensures ∙ ap memory (sym c.requires.same)) ∙ kept 14 _ (c.in-None.ensures ∙ ap operand_types c.definitions-definitions.ensures) ∙ steps_14 c.args.marks.now

pub returns-in-Some-extended : goal.returns-in-Some-extended
returns-in-Some-extended c = told 17 _ (c.in-Some-extended.ensures ∙ ap extended c.definitions-definitions.ensures) ∙ kept 16 _ (c.in-None-returns.ensures ∙ ap returns_rule c.definitions-definitions.ensures) ∙ kept 15 _ (sym c.in-None-access.is ∙ c.in_ok-access.ensures ∙ ap memory (sym c.requires.same)) ∙ kept 14 _ (c.in-None.ensures ∙ ap operand_types c.definitions-definitions.ensures) ∙ steps_14 c.args.marks.now

pub returns-in-Some-limit : goal.returns-in-Some-limit
returns-in-Some-limit c = told 18 _ (sym c.in-Some-limit.is ∙ c.in_ok-limit.ensures ∙ ap limits (c.module.ensures ∙ c.definitions-definitions.ensures)) ∙ kept 17 _ (c.in-None-extended.ensures ∙ ap extended c.definitions-definitions.ensures) ∙ kept 16 _ (c.in-None-returns.ensures ∙ ap returns_rule c.definitions-definitions.ensures) ∙ kept 15 _ (sym c.in-None-access.is ∙ c.in_ok-access.ensures ∙ ap memory (sym c.requires.same)) ∙ kept 14 _ (c.in-None.ensures ∙ ap operand_types c.definitions-definitions.ensures) ∙ steps_14 c.args.marks.now

pub returns : goal.returns
returns c = kept 18 _ (sym c.in-None-limit.is ∙ c.in_ok-limit.ensures ∙ ap limits (c.module.ensures ∙ c.definitions-definitions.ensures)) ∙ kept 17 _ (c.in-None-extended.ensures ∙ ap extended c.definitions-definitions.ensures) ∙ kept 16 _ (c.in-None-returns.ensures ∙ ap returns_rule c.definitions-definitions.ensures) ∙ kept 15 _ (sym c.in-None-access.is ∙ c.in_ok-access.ensures ∙ ap memory (sym c.requires.same)) ∙ kept 14 _ (c.in-None.ensures ∙ ap operand_types c.definitions-definitions.ensures) ∙ steps_14 c.args.marks.now
