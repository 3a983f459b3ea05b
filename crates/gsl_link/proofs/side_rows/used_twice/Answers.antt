use Rattle.std.proofs.Common.{ap, ◌∙◌, ◌++◌, List, []}
use Rattle.gsl_tree.specs.declared.unit.Block.{Block}
use Rattle.gsl_tree.specs.declared.unit.Interface.{Interface}
use Rattle.gsl_link_units.specs.Firsts.{earliest, again}
use Rattle.gsl_link_whole.specs.Numbers.{declared_blocks}
use Rattle.gsl_link.specs.Rows.{same_binding}
use Rattle.gsl_link.specs.Sides as spec
use Rattle.gsl_link.proofs.Again.{locations_are, bindings_are, block_places}
use Rattle.gsl_link.proofs.side_rows.used_twice.Goals as goal

pub returns : goal.returns
returns c =
    let sides = c.args.sides.now in
    c.earliest-place.ensures
    ∙ ap earliest (c.as_slice-3.ensures ∙ c.in_ok-places.ensures
    ∙ ap (λ (interfaces : List Interface). spec.bindings_again [] (spec.locations_again [] [] interfaces) c.as_slice-2.result.now) c.as_slice.ensures
    ∙ ap (λ (blocks : List Block). spec.bindings_again [] (spec.locations_again [] [] c.args.p.now.interfaces) blocks) (c.as_slice-2.ensures ∙ c.in_ok-blocks.ensures.all)
    ∙ bindings_are (spec.locations_again [] [] c.args.p.now.interfaces) (declared_blocks sides)
    ∙ ap (λ l. l ++ block_places (again same_binding (declared_blocks sides))) (locations_are c.args.p.now.interfaces))
