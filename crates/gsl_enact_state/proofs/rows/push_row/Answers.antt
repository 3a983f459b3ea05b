use Rattle.std.proofs.Common.{ap, ◌∙◌}
use Rattle.gsl_enact_state.specs.Seen.{given}
use Rattle.gsl_enact_state.proofs.Rowed.{given_push}
use Rattle.gsl_enact_state.proofs.rows.push_row.Goals as goal

pub returns : goal.returns
returns c = λ ids. ap (given ids) c.in_ok-push.ensures.ok ∙ given_push ids c.args.rows.now _
