use Rattle.std.proofs.Common.{ap}
use Rattle.gsl_enact_state.specs.Seen.{state_seen}
use Rattle.gsl_enact_state.proofs.Rowed.{ids_none}
use Rattle.gsl_enact_state.proofs.rows.begin_block.Goals as goal

pub returns : goal.returns
returns c = λ m. ap (λ ids. record (state_seen m c.args.state.now) { ids = ids }) (ids_none m c.args.state.now.own c.new.result c.new.ensures)
