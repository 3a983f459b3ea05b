use Rattle.gsl_compute.proofs.Loops.{pushed}
use Rattle.gsl_meaning.specs.Blocks as meaning
use Rattle.gsl_tree.specs.WellTyped.{IsBlock}
use Rattle.gsl_block_words.proofs.Buffered.{holds_at}
use Rattle.gsl_block_words.proofs.buffers.begun.Goals as goal

pub begun_one-requires-clause-block : goal.begun_one-requires-clause-block
begun_one-requires-clause-block c = holds_at (IsBlock c.args.structs.now) c.args.blocks.now c.loop-k.k c.index.result.now c.requires.blocks c.index.ensures

pub loop-k-preserved : goal.loop-k-preserved
loop-k-preserved c =
    pushed (meaning.begun c.args.structs.now c.args.input.now) c.args.blocks.now c.loop-k.k c.index.result.now c.loop-k.all c.push.new.self c.in_ok-v.v c.in_ok-push.ensures.ok c.in_ok-v.ensures c.index.ensures c.loop-k.invariant
