use Rattle.std.proofs.Common.{◌∙◌, sym, arith}
use Rattle.gsl_compute.proofs.Loops.{mapped_end, pushed}
use Rattle.gsl_block_words.specs.Blocked.{put_all}
use Rattle.gsl_block_words.proofs.Buffered.{buffer_by_buffer}
use Rattle.gsl_block_words.proofs.buffers.put_blocks.Goals as goal

pub loop-k-preserved : goal.loop-k-preserved
loop-k-preserved c =
    pushed (put_all c.args.structs.now c.args.blocks.now c.args.values.now) c.args.buffers.now c.loop-k.k c.index.result.now c.loop-k.all c.push.new.self c.in_ok-buffer.buffer c.in_ok-push.ensures.ok c.in_ok-buffer.ensures c.index.ensures c.loop-k.invariant

pub returns : goal.returns
returns c =
    mapped_end (put_all c.args.structs.now c.args.blocks.now c.args.values.now) c.args.buffers.now c.loop-k.k c.loop-k.all (omega (arith, c.loop-k-test.false, c.len-k-end.ensures)) c.loop-k.invariant
    ∙ sym (buffer_by_buffer c.args.structs.now c.args.blocks.now c.args.values.now c.args.buffers.now)
