use Rattle.gsl_lower_elements.proofs.Read.{block_read, block_shape}
use Rattle.gsl_lower_elements.proofs.members.members_are_read.Goals as goal

pub returns-clause-computes : goal.returns-clause-computes
returns-clause-computes c = λ m input sections f p around start writes b s state r l t shape a x are good inside sound of. block_read m input sections f p around are start b s state r l good x writes t a inside sound shape of

pub returns-clause-typed : goal.returns-clause-typed
returns-clause-typed c = λ m input sections f p around start writes b s state r l t shape a x are good inside sound of. block_shape m input sections f p around are start b s state r l good x writes t a inside sound shape of
