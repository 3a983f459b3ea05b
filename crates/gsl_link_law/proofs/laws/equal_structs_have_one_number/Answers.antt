use Rattle.gsl_tree.specs.WellTyped.{IsUnit}
use Rattle.gsl_link_units.specs.Structs.{joined_structs, struct_numbers}
use Rattle.gsl_link_law.proofs.Members.{all_in, in_get}
use Rattle.gsl_link_law.proofs.Spelled.{joined_apart, one_where_alike, placed_at}
use Rattle.gsl_link_law.proofs.Structs.{joined_structs_are, all_placed}
use Rattle.gsl_link_law.proofs.Typed.{known_units}
use Rattle.gsl_link_law.proofs.laws.equal_structs_have_one_number.Goals as goal

pub returns : goal.returns
returns c stage units i j numbers others unit other all at there also too k l below under =
    let known = known_units stage units all in
    let placed = all_placed units known in
    one_where_alike (joined_structs units) (joined_structs_are units known) (joined_apart units) numbers others unit other
    (placed_at (joined_structs units) (struct_numbers units) units placed i numbers unit at there) (placed_at (joined_structs units) (struct_numbers units) units placed j others other also too)
    (all_in (IsUnit stage) units all unit (in_get units i unit there)).typed.structs (all_in (IsUnit stage) units all other (in_get units j other too)).typed.structs k l below under
