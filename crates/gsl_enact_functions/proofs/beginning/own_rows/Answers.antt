use Rattle.std.proofs.Common.{map}
use Rattle.gsl_kinds.specs.Seen.{variable_seen}
use Rattle.gsl_enact_state.specs.Seen.{held_seen}
use Rattle.gsl_enact_functions.proofs.Cut.{own_is}
use Rattle.gsl_enact_functions.proofs.beginning.own_rows.Goals as goal

pub returns : goal.returns
returns c =
    λ m. own_is m c.new-rows.result c.give_each.new.rows c.point_to_values.new.rows c.args.parameters.now (map held_seen c.args.arguments.now) c.args.count (map variable_seen c.args.holders.now) c.new-rows.ensures
    c.in_ok-give_each.ensures c.in_ok-point_to_values.ensures
