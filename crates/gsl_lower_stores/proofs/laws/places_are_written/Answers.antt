use Rattle.gsl_lower_law_renewed.specs.OfWrites.{IsWritten}
use Rattle.gsl_lower_stores.proofs.Stored.{place_stored, place_unstored}
use Rattle.gsl_lower_stores.proofs.laws.places_are_written.Goals as goal

pub returns-clause-inside : goal.returns-clause-inside
returns-clause-inside c = λ m input sections f p around loose t value v a l r units b s state are knows sound good is inside typed stands. place_stored m input sections f p around are loose t sound value v typed knows a l inside b s units state r good is stands

pub returns-clause-outside : goal.returns-clause-outside
returns-clause-outside c = λ m input sections f p around loose t value v l r units b s state are sound good is outside typed stands. place_unstored m input sections f p around are loose t sound value v typed units b s state r l (IsWritten m input sections f p around b state) good is outside stands
