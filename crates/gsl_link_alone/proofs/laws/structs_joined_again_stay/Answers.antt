use Rattle.gsl_link_units.specs.Structs.{same_struct}
use Rattle.gsl_link_alone.proofs.Structs.{joined_alone}
use Rattle.gsl_link_alone.proofs.Unlike.{unlike_again}
use Rattle.gsl_link_alone.proofs.laws.structs_joined_again_stay.Goals as goal

pub returns : goal.returns
returns c = record {
  list = λ structs known once. (joined_alone structs known (unlike_again same_struct structs once)).0;
  numbers = λ structs known once. (joined_alone structs known (unlike_again same_struct structs once)).1;
}
