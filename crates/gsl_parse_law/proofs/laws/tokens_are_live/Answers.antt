use Rattle.gsl_parse_law.proofs.Parsed.{source_is_live}
use Rattle.gsl_parse_law.proofs.laws.tokens_are_live.Goals as goal

pub returns : goal.returns
returns c = source_is_live
