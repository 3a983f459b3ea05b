use Rattle.gsl_values.proofs.Places.{lowest_of_zero, lowest_found}
use Rattle.gsl_values.proofs.positions.lowest_one.Goals as goal

pub returns-then-a-eq0 : goal.returns-then-a-eq0
returns-then-a-eq0 c = lowest_of_zero c.args.a c.if-a-eq0.true

pub returns-else-a-eq0 : goal.returns-else-a-eq0
returns-else-a-eq0 c = lowest_found c.args.a c.if-a-eq0.false c.ranges.a.fits
