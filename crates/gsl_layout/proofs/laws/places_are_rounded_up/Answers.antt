use Rattle.gsl_layout.proofs.Multiples.{not_below, multiple_of_align, least}
use Rattle.gsl_layout.proofs.laws.places_are_rounded_up.Goals as goal

pub returns-clause-not_below : goal.returns-clause-not_below
returns-clause-not_below c = not_below

pub returns-clause-multiple : goal.returns-clause-multiple
returns-clause-multiple c = multiple_of_align

pub returns-clause-least : goal.returns-clause-least
returns-clause-least c = least
