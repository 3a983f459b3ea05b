use Rattle.std.proofs.Common.{arith, refl}
use Rattle.gsl_lowered.proofs.Filed.{taken_few, too_many, words_next}
use Rattle.gsl_lowered.proofs.writable.is_short.Goals as goal

pub overflow_cast-i : goal.overflow_cast-i
overflow_cast-i c = let few = taken_few c.args.of.now.instrs c.loop-i.i c.loop-i.words c.loop-i.invariant.0 c.loop-i.invariant.1 (omega (arith, c.loop-i-test.true, c.len-i-end.ensures)) in omega (arith, few)

pub returns-then-words-gt-MOST_FILE_WORDS : goal.returns-then-words-gt-MOST_FILE_WORDS
returns-then-words-gt-MOST_FILE_WORDS c =
    too_many c.args.of.now.instrs c.loop-i.i c.args-in-loop-i.result.now c.args-in-loop-i.ensures c.args.of.now c.loop-i.words refl c.loop-i.invariant.0 c.if-words-gt-MOST_FILE_WORDS.true

pub loop-i-preserved : goal.loop-i-preserved
loop-i-preserved c = (
  words_next c.args.of.now.instrs c.loop-i.i c.args-in-loop-i.result.now c.args-in-loop-i.ensures c.loop-i.words c.loop-i.invariant.0,
  omega (arith, c.if-words-gt-MOST_FILE_WORDS.false),
)
