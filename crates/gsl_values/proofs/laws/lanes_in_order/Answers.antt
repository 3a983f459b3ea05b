use Rattle.gsl_values.proofs.InOrder.{lane_at, past_lanes, left_by_lanes}
use Rattle.gsl_values.proofs.laws.lanes_in_order.Goals as goal

pub returns : goal.returns
returns c = record { component = lane_at; past = past_lanes; left = left_by_lanes }
