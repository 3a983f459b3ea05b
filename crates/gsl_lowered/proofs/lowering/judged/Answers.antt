use Rattle.std.proofs.Common.{sym, ◌∙◌}
use Rattle.gsl_lowered.proofs.Filed.{writable_is}
use Rattle.gsl_lowered.proofs.Judged.{unwritable}
use Rattle.gsl_lowered.proofs.lowering.judged.Goals as goal

pub returns-then-not-branch : goal.returns-then-not-branch
returns-then-not-branch c = unwritable c.args.of (sym c.in_ok-is_writable.ensures.told ∙ c.if-not-branch.true)

pub validate-requires-clause-file : goal.validate-requires-clause-file
validate-requires-clause-file c =
    (writable_is c.args.of (c.in_ok-is_writable.ensures.types c.if-not-branch.false) (sym c.in_ok-is_writable.ensures.told ∙ c.if-not-branch.false)).0
