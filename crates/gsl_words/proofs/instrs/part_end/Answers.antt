use Rattle.std.proofs.Common.{arith}
use Rattle.gsl_words.proofs.Flattened.{end_above, end_within, then_end, else_end}
use Rattle.gsl_words.proofs.instrs.part_end.Goals as goal

pub returns-then-i-starts-clause-some : goal.returns-then-i-starts-clause-some
returns-then-i-starts-clause-some c =
    omega (arith, end_above c.args.words.now c.args.starts.now c.args.i c.requires.flat c.requires.within, then_end c.args.words.now c.args.starts.now c.args.i (omega arith))

pub returns-then-i-starts-clause-within : goal.returns-then-i-starts-clause-within
returns-then-i-starts-clause-within c =
    omega (arith, end_within c.args.words.now c.args.starts.now c.args.i c.requires.flat c.requires.within, then_end c.args.words.now c.args.starts.now c.args.i (omega arith))

pub returns-else-i-starts-clause-some : goal.returns-else-i-starts-clause-some
returns-else-i-starts-clause-some c =
    omega (arith, end_above c.args.words.now c.args.starts.now c.args.i c.requires.flat c.requires.within, else_end c.args.words.now c.args.starts.now c.args.i (omega arith))
