use Rattle.gsl_parse_law.proofs.Parsed.{derived_parsed, tokens_parsed}
use Rattle.gsl_parse_law.proofs.laws.units_are_parsed.Goals as goal

pub returns : goal.returns
returns c = record { derived = derived_parsed; read = tokens_parsed }
