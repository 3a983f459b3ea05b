use Rattle.gsl_typed_places.proofs.Indexed.{indexed_valued}
use Rattle.gsl_typed_places.proofs.laws.indexed_have_values.Goals as goal

pub returns : goal.returns
returns c = indexed_valued
