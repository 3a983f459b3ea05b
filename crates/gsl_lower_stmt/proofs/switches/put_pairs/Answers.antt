use Rattle.std.proofs.Common.{arith}
use Rattle.gsl_lower_stmt.proofs.Targets.{pairs_end, pairs_on}
use Rattle.gsl_lower_stmt.proofs.switches.put_pairs.Goals as goal

pub loop-k-preserved : goal.loop-k-preserved
loop-k-preserved c = pairs_on c.args.label c.args.words.now c.loop-k.k c.word_at-word.result.now c.loop-k.args c.extend_from_slice.new.self _ c.word_at-word.ensures c.in_ok-extend_from_slice.ensures.ok c.loop-k.invariant

pub returns : goal.returns
returns c = pairs_end c.args.label c.args.words.now c.loop-k.k c.loop-k.args _ (omega (arith, c.loop-k-test.false, c.len-k-end.ensures)) c.loop-k.invariant
