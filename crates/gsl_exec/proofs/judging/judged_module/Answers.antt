use Rattle.std.proofs.Common.{ap, Err}
use Rattle.gsl_exec.proofs.Verdicts.{refused_none, told_judges}
use Rattle.gsl_exec.proofs.judging.judged_module.Goals as goal

pub returns-in-Ok : goal.returns-in-Ok
returns-in-Ok c = (c.in-Ok.ensures.valid.0, refused_none c.args.of c.in-Ok.ensures.valid.1.kept, c.in-Ok.ensures.valid.1)

pub returns-in-Err-Broken : goal.returns-in-Err-Broken
returns-in-Err-Broken c =
    told_judges c.args.of c.in-Err-Broken.rule c.in-Err-Broken.at c.broken_text.result c.told.result
    (c.in-Err-Broken.ensures.broken c.in-Err-Broken.rule c.in-Err-Broken.at (ap Err c.in-Err-Broken.field-0-is)) c.broken_text.ensures c.told.ensures
