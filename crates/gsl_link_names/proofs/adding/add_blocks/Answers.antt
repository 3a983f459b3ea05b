use Rattle.gsl_tree.specs.WellTyped.{IsBlock}
use Rattle.gsl_link_names.specs.Against.{with_blocks}
use Rattle.gsl_link_names.proofs.Steps.{one_put}
use Rattle.gsl_link_names.proofs.Tables.{all_at}
use Rattle.gsl_link_names.proofs.adding.add_blocks.Goals as goal

pub add_block-requires-clause-typed : goal.add_block-requires-clause-typed
add_block-requires-clause-typed c =
    all_at (IsBlock c.args.structs.now) c.args.blocks.now c.loop-k.k c.index-blocks-k.result c.requires.typed c.loop-k-test.true c.index-blocks-k.is

pub loop-k-preserved : goal.loop-k-preserved
loop-k-preserved c =
    one_put c.args.structs.now c.loop-k.rows.entries c.add_block.new.rows.entries (with_blocks c.args.structs.now c.args.rows.now.entries c.args.blocks.now) c.args.blocks.now c.loop-k.k
    c.index-blocks-k.result c.loop-k-test.true c.index-blocks-k.is c.in_ok-add_block.ensures c.loop-k.invariant
