use Rattle.std.proofs.Common.{◌∙◌, ◌++◌, ap, map, length}
use Rattle.gsl_kinds.specs.Seen.{variable_seen}
use Rattle.gsl_enact_state.specs.Seen.{held_seen}
use Rattle.gsl_machine.specs.Functions.{begins_as, own_ids, parameters_of, up_to_end, variables_of}
use Rattle.gsl_machine.specs.Interfaces.{globals}
use Rattle.gsl_enact_functions.proofs.Entered.{entered_is, own_ids_are}
use Rattle.gsl_enact_functions.proofs.beginning.enter.Goals as goal

pub returns : goal.returns
returns c =
    let m = c.args.globals.now in
    let s = c.args.state.now in
    let body = up_to_end c.args.body.now in
    let arguments = map held_seen c.args.arguments.now in
    let base = globals m in
    let count = length s.variables in
    entered_is m s c.first_label-state.result c.copied-state.result c.args.body.now c.in_ok-own.own c.new.result c.begin_each.new.variables (s.variables ++ map (begins_as m) (variables_of body)) (own_ids base body arguments count)
    c.first_label-state.ensures c.copied-state.ensures
    (own_ids_are base _ _ (parameters_of body) arguments _ count _ (variables_of body) (c.in_ok-own.ensures m) (c.as_slice.ensures ∙ c.in_ok-parameters.ensures) c.len-count.ensures
    (ap (map variable_seen) c.as_slice-2.ensures ∙ c.in_ok-holders.ensures)) c.new.ensures
    (c.in_ok-begin_each.ensures ∙ ap (λ d. s.variables ++ map (begins_as d) (map variable_seen c.as_slice-3.result.now)) (c.definitions-definitions.ensures ∙ c.decorations.ensures)
    ∙ ap (λ l. s.variables ++ map (begins_as m) l) (ap (map variable_seen) c.as_slice-3.ensures ∙ c.in_ok-holders.ensures))
