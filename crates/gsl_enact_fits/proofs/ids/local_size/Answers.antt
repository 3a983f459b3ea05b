use Rattle.std.proofs.Common.{ap, ◌∙◌, arith, length, refl}
use Rattle.std.specs.Option.{option_map}
use Rattle.gsl_enact_fits.specs.Passes.{size_from}
use Rattle.gsl_words.specs.declared.module.Module.{Module}
use Rattle.gsl_enact_fits.proofs.Loops.{at_front, from_end}
use Rattle.gsl_enact_fits.proofs.ids.local_size.Goals as goal

pub returns : goal.returns
returns c = at_front size_from c.args.definitions.now.instrs c.loop-at.at (option_map (λ parts. parts.now) c.loop-at.size) (omega (arith, c.loop-at-test.false)) c.loop-at.invariant

pub loop-at-init : goal.loop-at-init
unfolding size_from
loop-at-init c = from_end size_from c.args.definitions.now.instrs c.len-at.result c.len-at.result _ (c.len-at.ensures ∙ ap (λ (n : Module). length n.instrs) c.module.ensures) refl refl
