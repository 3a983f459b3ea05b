use Rattle.std.proofs.Common.{◌∙◌, ap, map}
use Rattle.gsl_machine.specs.Interfaces.{value_variables, variable_begins}
use Rattle.gsl_enact.proofs.Entered.{begun_is}
use Rattle.gsl_enact.proofs.entry.before_entry.Goals as goal

pub returns : goal.returns
returns c =
    begun_is c.args.globals.now c.args.input.now c.none.result c.none-2.result c.new.result c.new-2.result c.in_ok-variables.variables c.in_ok-buffers.buffers c.in_ok-choices.choices c.new-3.result
    c.none.ensures c.none-2.ensures c.new.ensures c.new-2.ensures
    (c.in_ok-variables.ensures ∙ ap (λ d. map (variable_begins d c.args.input.now) (value_variables d)) c.decorations.ensures) (c.in_ok-buffers.ensures ∙ c.as_slice.ensures) c.in_ok-choices.ensures c.new-3.ensures
