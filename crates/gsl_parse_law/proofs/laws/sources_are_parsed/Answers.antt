use Rattle.gsl_parse_law.proofs.Parsed.{source_parsed}
use Rattle.gsl_parse_law.proofs.laws.sources_are_parsed.Goals as goal

pub returns : goal.returns
returns c = source_parsed
