use Rattle.gsl_perform_state.proofs.States.{begun_is}
use Rattle.gsl_perform_state.proofs.beginning.begins.Goals as goal

pub returns : goal.returns
returns c =
    begun_is c.args.program.now c.args.input.now c.args.shapes.now c.in_ok-globals.globals c.in_ok-blocks.blocks c.in_ok-interfaces.interfaces c.new.result c.new-2.result c.in_ok-choices.choices c.requires.same
    c.in_ok-globals.ensures c.in_ok-blocks.ensures c.in_ok-interfaces.ensures c.new.ensures c.new-2.ensures c.in_ok-choices.ensures
