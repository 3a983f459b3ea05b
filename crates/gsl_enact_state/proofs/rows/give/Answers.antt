use Rattle.std.proofs.Common.{ap}
use Rattle.gsl_enact_state.specs.Seen.{state_seen}
use Rattle.gsl_enact_state.proofs.Rowed.{ids_push}
use Rattle.gsl_enact_state.proofs.rows.give.Goals as goal

pub returns : goal.returns
returns c = λ m. ap (λ ids. record (state_seen m c.args.state.now) { ids = ids }) (ids_push m c.args.state.now.own c.args.state.now.rows c.push.new.self _ c.in_ok-push.ensures.ok)
