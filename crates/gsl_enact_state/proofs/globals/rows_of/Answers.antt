use Rattle.std.proofs.Common.{◌∙◌, ap, map}
use Rattle.gsl_kinds.specs.Seen.{variable_seen}
use Rattle.gsl_enact_state.proofs.Gathered.{globals_are}
use Rattle.gsl_enact_state.proofs.globals.rows_of.Goals as goal

pub returns : goal.returns
returns c =
    globals_are c.args.definitions.now c.new-rows.result c.point_to_values.new.rows c.point_to_blocks.new.rows _ _ c.new-rows.ensures (ap (map variable_seen) c.as_slice.ensures ∙ c.in_ok-values.ensures)
    (ap (map variable_seen) c.as_slice-2.ensures ∙ c.in_ok-blocks.ensures) c.in_ok-point_to_values.ensures c.in_ok-point_to_blocks.ensures
