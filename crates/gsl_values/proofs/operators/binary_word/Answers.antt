use Rattle.std.proofs.Common.{◌^◌, sym}
use Rattle.gsl_values.proofs.Words.{word_of_product, word_of_multiple}
use Rattle.gsl_values.proofs.Bits.{and_bits, or_bits, xor_bits}
use Rattle.gsl_values.proofs.operators.binary_word.Goals as goal

pub returns-in-Mul : goal.returns-in-Mul
returns-in-Mul c = rw c.in-Mul.is (sym (word_of_product c.args.signed c.args.a c.args.b c.ranges.a.fits c.ranges.b.fits))

pub returns-in-Shl : goal.returns-in-Shl
returns-in-Shl c = rw c.in-Shl.is (sym (word_of_multiple c.args.signed c.args.a (2 ^ c.args.b) c.ranges.a.fits))

pub returns-in-And : goal.returns-in-And
returns-in-And c = rw c.in-And.is (and_bits c.args.a c.args.b c.ranges.a.fits c.ranges.b.fits)

pub returns-in-Or : goal.returns-in-Or
returns-in-Or c = rw c.in-Or.is (or_bits c.args.a c.args.b c.ranges.a.fits c.ranges.b.fits)

pub returns-in-Xor : goal.returns-in-Xor
returns-in-Xor c = rw c.in-Xor.is (xor_bits c.args.a c.args.b c.ranges.a.fits c.ranges.b.fits)
