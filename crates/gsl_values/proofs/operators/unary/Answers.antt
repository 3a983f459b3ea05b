use Rattle.gsl_values.specs.Operators.{unary_word}
use Rattle.gsl_values.proofs.Bits.{flipped_bits}
use Rattle.gsl_values.proofs.operators.unary.Goals as goal

pub returns-in-Flip : goal.returns-in-Flip
unfolding unary_word
returns-in-Flip c = rw c.in-Flip.is (flipped_bits c.args.a c.ranges.a.fits)
