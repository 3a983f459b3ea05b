use Rattle.std.proofs.Common.{ap, ◌∙◌}
use Rattle.gsl_lower_leaves.specs.Shaped.{leaves_by}
use Rattle.gsl_lower_leaves.proofs.Layers.{leaves_shaped}
use Rattle.gsl_lower_leaves.proofs.leaves.leaves_of.Goals as goal

pub returns : goal.returns
returns c = c.in_ok-leaves.ensures ∙ ap leaves_by c.in_ok-shape.ensures ∙ leaves_shaped c.args.shapes.now c.args.ty.now
