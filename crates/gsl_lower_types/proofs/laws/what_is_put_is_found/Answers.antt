use Rattle.gsl_lower_types.proofs.Finding.{finds_itself, nothing_whole}
use Rattle.gsl_lower_types.proofs.laws.what_is_put_is_found.Goals as goal

pub returns-clause-nothing : goal.returns-clause-nothing
returns-clause-nothing c = nothing_whole

pub returns-clause-grows : goal.returns-clause-grows
returns-clause-grows c = λ t known then_known id before after made. (finds_itself t).grows known before (id, then_known) after made

pub returns-clause-found : goal.returns-clause-found
returns-clause-found c = λ t known then_known id before after made. (finds_itself t).found known before (id, then_known) after made

pub returns-clause-whole : goal.returns-clause-whole
returns-clause-whole c = λ t known then_known id before after made. (finds_itself t).whole known before (id, then_known) after made
