use Rattle.gsl_lower_law_bytes.proofs.Told.{bytes_told}
use Rattle.gsl_lower_law_bytes.proofs.laws.puts_are_told.Goals as goal

pub returns : goal.returns
returns c = λ l components offset path words given bytes is fits long small told leads some many below. bytes_told l components offset path words given bytes is fits long small told leads some many below
