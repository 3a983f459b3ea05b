use Rattle.std.proofs.Common.{subst}
use Rattle.gsl_meaning.specs.Shader.{Outcome}
use Rattle.gsl_reference.specs.Owed.{came_to}
use Rattle.gsl_reference.specs.Steps.{Comes}
use Rattle.gsl_reference.proofs.performing.ran.Goals as goal

pub returns-in-Ok : goal.returns-in-Ok
returns-in-Ok c = λ targets. subst (λ (o : Outcome). Comes ⊥ (came_to targets o) c.shown.result) c.in-Ok.ensures (c.shown.ensures targets)
