use Rattle.gsl_link_law.proofs.Programs.{whole_is, joined_program}
use Rattle.gsl_link_law.proofs.laws.linked_units_are_programs.Goals as goal

pub returns : goal.returns
returns c = record {
  joined = joined_program;
  whole = λ stage units are none. whole_is stage units are none;
}
