use Rattle.std.proofs.Common.{◌∙◌, ap, sym}
use Rattle.gsl_enact_state.specs.Seen.{state_seen}
use Rattle.gsl_enact_functions.proofs.Entered.{none_waits, one_waits}
use Rattle.gsl_enact_functions.proofs.calls.back.Goals as goal

pub returns-in-None : goal.returns-in-None
returns-in-None c =
    λ m. (none_waits m c.args.state.now c.args.state.now.waiting c.in-None.ensures.0, ap (λ l. state_seen m (record c.args.state.now { waiting = l })) (c.in-None.ensures.1 ∙ sym c.in-None.ensures.0))

pub returns-in-Some : goal.returns-in-Some
returns-in-Some c = λ m. one_waits m c.args.state.now c.pop.new.self c.args.state.now.waiting c.in-Some.call c.truncate.new.self c.in-Some.ensures c.truncate.ensures
