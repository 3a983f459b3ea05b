use Rattle.gsl_enact_state.specs.Seen.{state_seen}
use Rattle.gsl_machine.specs.Functions.{up_to_end}
use Rattle.gsl_enact.proofs.Entered.{starts_at, starts_nowhere}
use Rattle.gsl_enact.proofs.entry.start.Goals as goal

pub returns-in-None : goal.returns-in-None
returns-in-None c = starts_nowhere c.args.globals.now c.args.input.now _ c.in-None.ensures c.in_ok-state.ensures

pub returns-in_ok-enter-in-Some : goal.returns-in_ok-enter-in-Some
returns-in_ok-enter-in-Some c =
    starts_at c.args.globals.now c.args.input.now (up_to_end c.in-Some.body) (state_seen c.args.globals.now c.in_ok-state.state) (state_seen c.args.globals.now c.enter.new.state) c.in-Some.ensures c.in_ok-state.ensures c.in_ok-enter-in-Some.ensures
