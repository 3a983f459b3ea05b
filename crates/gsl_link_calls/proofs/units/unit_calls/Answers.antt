use Rattle.std.proofs.Common.{ap, sym, ◌∙◌}
use Rattle.gsl_link_calls.specs.Gathering as spec
use Rattle.gsl_link_calls.specs.Gathering.{in_turn}
use Rattle.gsl_link_calls.proofs.Steps.{unit_is}
use Rattle.gsl_link_calls.proofs.units.unit_calls.Goals as goal

pub returns : goal.returns
returns c =
    let unit = c.args.unit.now in
    c.in_ok-functions_gathered.ensures
    ∙ ap (in_turn spec.function_gathered c.globals_gathered.new.calls) c.as_slice-2.ensures
    ∙ ap (λ l. in_turn spec.function_gathered l unit.functions) (c.in_ok-globals_gathered.ensures ∙ ap (in_turn spec.global_gathered c.args.calls.now) c.as_slice.ensures)
    ∙ unit_is c.args.calls.now unit.globals unit.functions
