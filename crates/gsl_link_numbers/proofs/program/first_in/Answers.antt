use Rattle.gsl_link_numbers.proofs.Sizes.{first_part}
use Rattle.gsl_link_numbers.proofs.program.first_in.Goals as goal

pub returns : goal.returns
returns c = first_part c.args.sizes.now c.first_parts.result c.first_parts.ensures
