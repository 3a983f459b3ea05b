use Rattle.gsl_enact.proofs.Stepped.{ran_whole}
use Rattle.gsl_enact.proofs.running.run_module.Goals as goal

pub returns : goal.returns
returns c =
    ran_whole c.in_ok-globals.globals c.args.decorations.now c.args.input.now c.args.steps c.in_ok-state.state c.run.new.state c.in_ok-step.step c.in_ok-globals.ensures c.in_ok-state.ensures c.in_ok-step.ensures
