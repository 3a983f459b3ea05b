use Rattle.gsl_lower_elements.proofs.Pointed.{block_pointed, block_pointed_out}
use Rattle.gsl_lower_elements.proofs.members.members_are_pointed_to.Goals as goal

pub returns-clause-inside : goal.returns-clause-inside
returns-clause-inside c = λ m input sections f p around start writes b s state r l t shape a x are good inside sound of. block_pointed m input sections f p around are start b s state r l good x writes t a inside sound shape of

pub returns-clause-outside : goal.returns-clause-outside
returns-clause-outside c = λ m input sections f p around start writes b s state r l t shape x are good outside. block_pointed_out m input sections f p around are start b s state r l good x writes t outside shape
