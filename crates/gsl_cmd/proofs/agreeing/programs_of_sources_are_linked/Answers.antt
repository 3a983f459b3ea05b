use Rattle.gsl_cmd.proofs.Linking.{sources_nest}
use Rattle.gsl_cmd.proofs.agreeing.programs_of_sources_are_linked.Goals as goal

pub returns : goal.returns
returns c = sources_nest
