use Rattle.gsl_lower_law_renewed.specs.OfWrites.{IsWritten}
use Rattle.gsl_lower_stores.proofs.Ready.{place_ready, ready_strays}
use Rattle.gsl_lower_stores.proofs.laws.places_are_made_ready.Goals as goal

pub returns-clause-inside : goal.returns-clause-inside
returns-clause-inside c = λ m input sections f p around loose t shape a l r units b s state are knows sound shaped good is inside. place_ready m input sections f p around are loose t sound shape shaped knows r a l inside b s units state good is

pub returns-clause-outside : goal.returns-clause-outside
returns-clause-outside c = λ m input sections f p around loose t shape l r next units b s state are sound shaped good is outside adds strays. ready_strays m input sections f p around are loose t sound shape shaped units b s state r l next (IsWritten m input sections f p around b state) good is outside adds strays
