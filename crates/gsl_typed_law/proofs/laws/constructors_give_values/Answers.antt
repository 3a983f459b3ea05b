use Rattle.gsl_typed_law.proofs.Built.{build_typed}
use Rattle.gsl_typed_law.proofs.laws.constructors_give_values.Goals as goal

pub returns : goal.returns
returns c around args t vs are is pass = build_typed around are args vs pass t is
