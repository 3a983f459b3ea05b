use Rattle.std.proofs.Common.{arith}
use Rattle.std.proofs.lemmas.Map.Text.{text_keys}
use Rattle.gsl_names.proofs.names.restore.Goals as goal

pub returns-in-Some-get_mut : goal.returns-in-Some-get_mut
returns-in-Some-get_mut c = grind (arith, text_keys)

pub returns-in-None : goal.returns-in-None
returns-in-None c = grind (arith, text_keys)
