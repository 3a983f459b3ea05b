use Rattle.gsl_shapes.proofs.Shaped.{shape_made}
use Rattle.gsl_shapes.proofs.shapes.Shapes.shape.Goals as goal

pub returns : goal.returns
returns c = shape_made _ _ c.self.inside.table c.as_slice.result.now c.args.ty.now c.in_ok-shape.shape c.self.view_is c.self.invariant c.as_slice.ensures c.in_ok-shape.ensures
