use Rattle.gsl_lower_elements.proofs.Lengths.{length_gives}
use Rattle.gsl_lower_elements.proofs.members.lengths_are_counted.Goals as goal

pub returns : goal.returns
returns c = λ m input sections f p around block number t are known runtime. length_gives m input sections f p around are block number t known runtime
