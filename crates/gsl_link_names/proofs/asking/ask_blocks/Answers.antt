use Rattle.gsl_tree.specs.WellTyped.{IsBlock}
use Rattle.gsl_link_names.specs.Against.{blocks_against}
use Rattle.gsl_link_names.proofs.Steps.{one_asked}
use Rattle.gsl_link_names.proofs.Tables.{all_at}
use Rattle.gsl_link_names.proofs.asking.ask_blocks.Goals as goal

pub against_block-requires-clause-typed : goal.against_block-requires-clause-typed
against_block-requires-clause-typed c =
    all_at (IsBlock c.args.structs.now) c.args.blocks.now c.loop-k.k c.index-blocks-k.result c.requires.typed c.loop-k-test.true c.index-blocks-k.is

pub loop-k-preserved : goal.loop-k-preserved
loop-k-preserved c =
    one_asked c.args.structs.now c.args.rows.now.entries c.args.functions.now.keys c.args.pushes.now c.loop-k.places c.add_place.new.places
    (blocks_against c.args.structs.now c.args.rows.now.entries c.args.functions.now.keys c.args.pushes.now c.args.places.now c.args.blocks.now) c.args.blocks.now c.loop-k.k
    c.index-blocks-k.result c.in_ok-so.so c.loop-k-test.true c.index-blocks-k.is c.in_ok-so.ensures c.in_ok-add_place.ensures c.loop-k.invariant
