use Rattle.std.proofs.Common.{arith}
use Rattle.std.proofs.lemmas.Result.{err_from_is_err_and}
use Rattle.gsl_tree.specs.WellTyped.{IsBlock}
use Rattle.gsl_block_words.proofs.Buffered.{holds_at}
use Rattle.gsl_lower_types.specs.Blocks.{blocks_put}
use Rattle.gsl_lower_types.proofs.Rows.{blocks_end, blocks_on, blocks_stop}
use Rattle.gsl_lower_types.proofs.blocks.blocks_put.Goals as goal

pub block_in-requires-clause-block : goal.block_in-requires-clause-block
block_in-requires-clause-block c = holds_at (IsBlock c.args.structs.now) c.args.blocks.now c.loop-k.k c.index.result.now c.requires.blocks c.index.ensures

pub returns-in_err-block_in : goal.returns-in_err-block_in
returns-in_err-block_in c =
    let p = err_from_is_err_and c.from_residual.result c.from_residual.ensures.1 in
    rw (p.1, p.2) (blocks_stop c.args.target c.args.structs.now c.args.blocks.now c.loop-k.k c.index.result.now c.loop-k.ids _ c.loop-k.laid c.loop-k.b (blocks_put c.args.target c.args.structs.now c.args.blocks.now c.args.laid.now c.args.b.now)
    c.index.ensures c.in_err-block_in.ensures c.loop-k.invariant)

pub loop-k-preserved : goal.loop-k-preserved
loop-k-preserved c =
    blocks_on c.args.target c.args.structs.now c.args.blocks.now c.loop-k.k c.index.result.now c.loop-k.ids c.push.new.self c.in_ok-block_in.field-0 c.loop-k.laid c.block_in.new.laid c.loop-k.b c.block_in.new.b
    (blocks_put c.args.target c.args.structs.now c.args.blocks.now c.args.laid.now c.args.b.now) c.index.ensures c.in_ok-block_in.ensures c.in_ok-push.ensures.ok c.loop-k.invariant

pub returns : goal.returns
returns c =
    blocks_end c.args.target c.args.structs.now c.args.blocks.now c.loop-k.k c.loop-k.ids c.loop-k.laid c.loop-k.b _ (omega (arith, c.loop-k-test.false, c.len-k-end.ensures)) c.loop-k.invariant
