use Rattle.gsl_typed_places.proofs.Places.{place_valued}
use Rattle.gsl_typed_places.proofs.laws.places_have_values.Goals as goal

pub returns : goal.returns
returns c = place_valued
