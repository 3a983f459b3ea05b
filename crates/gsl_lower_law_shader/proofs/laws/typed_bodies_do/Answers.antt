use Rattle.gsl_lower_law_shader.proofs.Bodies.{typed_body_does}
use Rattle.gsl_lower_law_shader.proofs.laws.typed_bodies_do.Goals as goal

pub returns : goal.returns
returns c = typed_body_does
