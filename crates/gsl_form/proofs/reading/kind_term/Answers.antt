use Rattle.std.proofs.Common.{sym}
use Rattle.gsl_form.proofs.Steps.{no_term}
use Rattle.gsl_form.proofs.reading.kind_term.Goals as goal

pub returns-in_default : goal.returns-in_default
returns-in_default c = sym (no_term c.args.count c.args.kind.now c.in_default.not-BlockMember c.in_default.not-Const)
