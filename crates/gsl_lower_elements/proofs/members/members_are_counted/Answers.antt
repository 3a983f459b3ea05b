use Rattle.gsl_lower_elements.proofs.Standing.{row_counted, run_counted}
use Rattle.gsl_lower_elements.proofs.members.members_are_counted.Goals as goal

pub returns-clause-row : goal.returns-clause-row
returns-clause-row c = λ m input sections f p around start writes b s state r l t element a x are good inside none has. row_counted m input sections f p around are start b s state r l good x writes t a inside element has none

pub returns-clause-run : goal.returns-clause-run
returns-clause-run c = λ m input sections f p around start writes b s state r l t element shape a x are good inside sound of has. run_counted m input sections f p around are start b s state r l good x writes t a inside element has shape sound of
