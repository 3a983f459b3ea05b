use Rattle.gsl_lower_law_leaves.proofs.Compared.{whole_computes}
use Rattle.gsl_lower_law_leaves.proofs.laws.equality_computes.Goals as goal

pub returns : goal.returns
returns c = λ m input whole which a b leaves v w state before is first second has_v has_w. whole_computes m input whole which is a b leaves v w state before first second has_v has_w
