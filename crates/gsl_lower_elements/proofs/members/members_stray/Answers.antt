use Rattle.gsl_lower_elements.proofs.Strayed.{block_strays}
use Rattle.gsl_lower_elements.proofs.members.members_stray.Goals as goal

pub returns : goal.returns
returns c = λ m input sections f p around start writes b s state r l t shape x are good outside. block_strays m input sections f p around are start b s state r l good x writes t outside shape
