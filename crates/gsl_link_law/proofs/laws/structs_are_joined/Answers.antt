use Rattle.gsl_link_law.proofs.Typed.{known_units, declared_units}
use Rattle.gsl_link_law.proofs.Structs.{joined_structs_are, all_placed}
use Rattle.gsl_link_law.proofs.Declared.{joined_structs_declared}
use Rattle.gsl_link_law.proofs.laws.structs_are_joined.Goals as goal

pub returns : goal.returns
returns c = record {
  known = λ stage units all. joined_structs_are units (known_units stage units all);
  declared = λ stage units all. joined_structs_declared units (declared_units stage units all);
  placed = λ stage units all. all_placed units (known_units stage units all);
}
