use Rattle.gsl_words.proofs.Bytes.{others_kept, put-length}
use Rattle.gsl_views.proofs.laws.four_bytes_change.Goals as goal

pub returns-clause-others : goal.returns-clause-others
returns-clause-others c = others_kept

pub returns-clause-length : goal.returns-clause-length
returns-clause-length c = put-length
