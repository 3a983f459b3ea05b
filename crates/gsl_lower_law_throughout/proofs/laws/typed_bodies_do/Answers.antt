use Rattle.gsl_tree.specs.Trees.{outside}
use Rattle.gsl_lower_law_shader.specs.Typed.{AsksOf}
use Rattle.gsl_lower_law_throughout.proofs.Holding.{body}
use Rattle.gsl_lower_law_throughout.proofs.laws.typed_bodies_do.Goals as goal

pub returns : goal.returns
returns c m input whole f p params locals call stage calls ss typed knows is asks =
    c.typed_bodies_do.ensures m input whole f p params locals call stage calls ss typed knows is (body (AsksOf m input whole f p params locals call stage calls) outside ss asks)
