use Rattle.gsl_link_alone.proofs.Faultless.{joined_linked, joined_again}
use Rattle.gsl_link_alone.proofs.laws.joined_programs_are_linked.Goals as goal

pub returns : goal.returns
returns c = record {
  linked = joined_linked;
  again = joined_again;
}
