use Rattle.std.proofs.Common.{◌∙◌, ◌∷◌, ap}
use Rattle.gsl_machine.specs.Functions.{call_from}
use Rattle.gsl_enact_state.specs.Seen.{calls_seen, state_seen}
use Rattle.gsl_enact_functions.proofs.Entered.{calls_push}
use Rattle.gsl_enact_functions.proofs.calls.wait.Goals as goal

pub returns-clause-waiting : goal.returns-clause-waiting
returns-clause-waiting c =
    λ m. calls_push m c.call_from-call.new.state.waiting c.push.new.self c.call_from-call.result c.in_ok-push.ensures.ok ∙ ap (λ w. w ∷ calls_seen m c.call_from-call.new.state.waiting) (c.call_from-call.ensures.call m)
    ∙ ap (λ l. call_from c.args.id (state_seen m c.args.state.now) ∷ calls_seen m l) c.call_from-call.ensures.waiting
