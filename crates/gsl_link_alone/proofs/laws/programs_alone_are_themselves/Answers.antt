use Rattle.gsl_link_alone.proofs.Wholes.{whole_alone}
use Rattle.gsl_link_alone.proofs.laws.programs_alone_are_themselves.Goals as goal

pub returns : goal.returns
returns c p is once = whole_alone p is once
