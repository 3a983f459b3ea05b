use Rattle.std.proofs.Common.{sym, ◌∙◌}
use Rattle.gsl_meaning.proofs.Lists.{values_begin, values_end, values_on, values_stop}
use Rattle.gsl_meaning.proofs.fitting.values_met.Goals as goal

pub loop-location-init : goal.loop-location-init
loop-location-init c = values_begin c.args.interfaces.now c.args.input.now

pub loop-location-preserved : goal.loop-location-preserved
loop-location-preserved c =
    values_on c.args.interfaces.now c.args.input.now c.loop-location.location c.loop-location-test.true (sym c.value_met.ensures ∙ c.in_default.is) c.loop-location.invariant

pub returns-in-Err : goal.returns-in-Err
returns-in-Err c =
    values_stop c.args.interfaces.now c.args.input.now c.loop-location.location c.in-Err.refusal c.loop-location-test.true (sym c.value_met.ensures ∙ c.in-Err.is) c.loop-location.invariant

pub returns : goal.returns
returns c = values_end c.args.interfaces.now c.args.input.now c.loop-location.location c.loop-location-test.false c.loop-location.invariant
