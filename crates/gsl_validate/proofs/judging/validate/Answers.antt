use Rattle.std.proofs.Common.{◌∙◌, sym}
use Rattle.gsl_validate.proofs.Steps.{few, valid_is, broken_is}
use Rattle.gsl_validate.proofs.judging.validate.Goals as goal

pub broken-requires-clause-length : goal.broken-requires-clause-length
broken-requires-clause-length c = few c.args.module c.requires.words

pub proved-requires-clause-valid : goal.proved-requires-clause-valid
proved-requires-clause-valid c = valid_is c.args.module c.requires.file (sym c.in-Ok-None.field-0-is ∙ c.in-Ok-None.ensures)

pub returns-in-Ok-Some-clause-broken : goal.returns-in-Ok-Some-clause-broken
returns-in-Ok-Some-clause-broken c = λ rule at e. broken_is c.args.module c.in-Ok-Some.rule c.in-Ok-Some.at rule at (sym c.in-Ok-Some.field-0-is ∙ c.in-Ok-Some.ensures) e
