use Rattle.std.proofs.Common.{◌∙◌, ap, drop, drop-drop}
use Rattle.gsl_names.proofs.names.take_off.Goals as goal

pub loop-preserved : goal.loop-preserved
loop-preserved c = (c.take_one.ensures.all ∙ ap (drop 1) c.loop.invariant.0 ∙ drop-drop 1 c.loop.counter c.args.all.now, c.take_one.ensures.hidden, c.take_one.ensures.places)
