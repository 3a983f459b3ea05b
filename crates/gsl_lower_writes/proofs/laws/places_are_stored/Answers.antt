use Rattle.gsl_lower_writes.specs.Written.{IsWritten}
use Rattle.gsl_lower_writes.proofs.Stored.{trail_stored}
use Rattle.gsl_lower_writes.proofs.Outside.{store_strays}
use Rattle.gsl_lower_writes.proofs.laws.places_are_stored.Goals as goal

pub returns-clause-inside : goal.returns-clause-inside
returns-clause-inside c = λ m input sections f p around loose t value v a l r units b s state are sound good is inside typed stands. trail_stored m input sections f p around are loose t sound value v typed a l inside b s units state r good is stands

pub returns-clause-outside : goal.returns-clause-outside
returns-clause-outside c = λ m input sections f p around loose t value v l r units b s state are sound good is outside typed stands. store_strays m input sections f p around are loose t sound value v typed units b s state r l (IsWritten m input sections f p around b state) good is outside stands
