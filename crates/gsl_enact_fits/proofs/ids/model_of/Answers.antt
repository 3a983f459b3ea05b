use Rattle.std.proofs.Common.{ap, ◌∙◌, arith, length, refl}
use Rattle.gsl_enact_fits.specs.Passes.{model_from}
use Rattle.gsl_words.specs.declared.module.Module.{Module}
use Rattle.gsl_enact_fits.proofs.Loops.{at_front, from_end}
use Rattle.gsl_enact_fits.proofs.ids.model_of.Goals as goal

pub returns : goal.returns
unfolding model_from
returns c = at_front model_from c.args.definitions.now.instrs c.loop-at.at c.loop-at.model (omega (arith, c.loop-at-test.false)) c.loop-at.invariant

pub loop-at-init : goal.loop-at-init
unfolding model_from
loop-at-init c = from_end model_from c.args.definitions.now.instrs c.len-at.result c.len-at.result _ (c.len-at.ensures ∙ ap (λ (n : Module). length n.instrs) c.module.ensures) refl refl
