use Rattle.gsl_values.proofs.Places.{ones_are_below, reversed_bits}
use Rattle.gsl_values.proofs.functions.word.Goals as goal

pub returns-in-BitCount : goal.returns-in-BitCount
returns-in-BitCount c = rw c.in-BitCount.is (ones_are_below 32 c.args.a c.ranges.a.fits)

pub returns-in-BitfieldReverse : goal.returns-in-BitfieldReverse
returns-in-BitfieldReverse c = rw c.in-BitfieldReverse.is (reversed_bits c.args.a c.reverse_bits.result c.reverse_bits.type_inv c.reverse_bits.ensures)
