use Rattle.gsl_compute.proofs.Loops.{pushed}
use Rattle.std.proofs.Common.{refl}
use Rattle.gsl_values.specs.declared.value.Value.TheVariants.{Word}
use Rattle.gsl_enact_values.proofs.words.many.Goals as goal

pub loop-k-preserved : goal.loop-k-preserved
loop-k-preserved c = pushed Word c.args.words.now c.loop-k.k c.index.result.now c.loop-k.parts c.push.new.self (Word c.index.result.now) c.in_ok-push.ensures.ok refl c.index.ensures c.loop-k.invariant
