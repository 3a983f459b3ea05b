use Rattle.gsl_manifest.specs.Manifests.{all, values_in, is_lower}
use Rattle.gsl_manifest.proofs.Inverted.{proper_of, by_lines}
use Rattle.gsl_manifest.proofs.Permuted.{kept_order}
use Rattle.gsl_manifest.proofs.laws.in_their_order.Goals as goal

pub returns-clause-proper : goal.returns-clause-proper
returns-clause-proper c = proper_of

pub returns-clause-values : goal.returns-clause-values
returns-clause-values c = λ says. kept_order is_lower (all values_in says)

pub returns-clause-buffers : goal.returns-clause-buffers
returns-clause-buffers c = by_lines
