use Rattle.std.proofs.Common.{◌∙◌, ap, sym}
use Rattle.gsl_enact_state.specs.Seen.{state_seen}
use Rattle.gsl_enact_steps.specs.Outcomes.{outcome_seen}
use Rattle.gsl_enact.proofs.Stepped.{ran_on, ran_over}
use Rattle.gsl_enact.proofs.running.run.Goals as goal

pub loop-left-preserved : goal.loop-left-preserved
loop-left-preserved c =
    let m = c.args.globals.now in
    ran_on m c.args.input.now c.loop-left.left (state_seen m c.loop-left.state) (state_seen m c.step.new.state) _ c.loop-left-test.true (sym (ap (outcome_seen m c.step.new.state) c.in-Going.is) ∙ c.in_ok-over.ensures) c.loop-left.invariant

pub returns-in_default : goal.returns-in_default
returns-in_default c =
    let m = c.args.globals.now in
    ran_over m c.args.input.now c.loop-left.left (state_seen m c.loop-left.state) c.step.new.state c.in_ok-over.over _ c.loop-left-test.true c.in_default.not-Going c.in_ok-over.ensures c.loop-left.invariant
