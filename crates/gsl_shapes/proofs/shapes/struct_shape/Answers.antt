use Rattle.std.proofs.Common.{ap, ◌∙◌}
use Rattle.gsl_types.specs.Structs.{members_over}
use Rattle.gsl_shapes.specs.declared.shape.Shape.TheVariants.{Struct}
use Rattle.gsl_shapes.specs.Shaping.{known, shapes_of, shaping}
use Rattle.gsl_shapes.proofs.Lists.{members_are}
use Rattle.gsl_shapes.proofs.shapes.struct_shape.Goals as goal

pub returns : goal.returns
returns c = ap Struct (c.in_ok-members.ensures ∙ members_are c.args.table.now c.as_slice.result.now ∙ ap (λ l. shapes_of (members_over shaping (known c.args.table.now) l)) c.as_slice.ensures)
