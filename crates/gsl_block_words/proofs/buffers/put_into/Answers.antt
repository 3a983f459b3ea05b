use Rattle.std.proofs.Common.{arith}
use Rattle.gsl_tree.specs.WellTyped.{IsBlock}
use Rattle.gsl_block_words.specs.Blocked as spec
use Rattle.gsl_block_words.proofs.Buffered.{holds_at, into_end, into_on}
use Rattle.gsl_block_words.proofs.buffers.put_into.Goals as goal

pub put_where-requires-clause-block : goal.put_where-requires-clause-block
put_where-requires-clause-block c = holds_at (IsBlock c.args.structs.now) c.args.blocks.now c.loop-k.k c.index.result.now c.requires.blocks c.index.ensures

pub loop-k-preserved : goal.loop-k-preserved
loop-k-preserved c =
    into_on c.args.structs.now c.args.blocks.now c.args.values.now c.loop-k.k c.index.result.now c.index-in-loop-k.result.now c.args.set c.args.binding c.loop-k.bytes c.put_where.new.bytes
    (spec.put_into c.args.structs.now c.args.blocks.now c.args.values.now c.args.set c.args.binding c.args.bytes.now) c.index.ensures c.index-in-loop-k.ensures c.in_ok-put_where.ensures c.loop-k.invariant

pub returns : goal.returns
returns c =
    into_end c.args.structs.now c.args.blocks.now c.args.values.now c.loop-k.k c.args.set c.args.binding c.loop-k.bytes (spec.put_into c.args.structs.now c.args.blocks.now c.args.values.now c.args.set c.args.binding c.args.bytes.now)
    (omega (arith, c.loop-k-test.false, c.len.ensures, c.len-2.ensures, c.min-k-end.ensures)) c.loop-k.invariant
