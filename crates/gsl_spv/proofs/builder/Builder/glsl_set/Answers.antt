use Rattle.std.proofs.Common.{arith, subst}
use Rattle.std.proofs.lemmas.Grind.{common_steps}
use Rattle.gsl_spv.specs.Growing.{Extends}
use Rattle.gsl_spv.proofs.Extending.{extends_glsl_set}
use Rattle.gsl_spv.proofs.builder.Builder.glsl_set.Goals as goal

pub returns-clause-grows : goal.returns-clause-grows
returns-clause-grows c = subst (λ s. Extends c.args.self.now s) (grind (arith, common_steps)) (extends_glsl_set c.args.self.now)
