use Rattle.gsl_lower_law_linked.proofs.Linked.{linked_nest}
use Rattle.gsl_lower_law_linked.proofs.laws.linked_programs_nest.Goals as goal

pub returns : goal.returns
returns c = linked_nest
