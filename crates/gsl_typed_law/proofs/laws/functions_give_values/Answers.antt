use Rattle.gsl_typed_law.proofs.Builtins.{builtin_typed}
use Rattle.gsl_typed_law.proofs.laws.functions_give_values.Goals as goal

pub returns : goal.returns
returns c = builtin_typed
