use Rattle.gsl_values.proofs.Places.{differing_from_one}
use Rattle.gsl_values.proofs.positions.differing_bits.Goals as goal

pub returns-then-a-ge2147483648 : goal.returns-then-a-ge2147483648
returns-then-a-ge2147483648 c = rw c.if-signed.true (λ i l. differing_from_one c.args.a i c.ranges.a.fits c.if-a-ge2147483648.true l)
