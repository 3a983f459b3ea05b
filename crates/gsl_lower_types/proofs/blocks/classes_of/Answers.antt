use Rattle.gsl_compute.proofs.Loops.{pushed}
use Rattle.gsl_tree.specs.declared.unit.Block.{Block}
use Rattle.gsl_lower_types.specs.Blocks.{class_of}
use Rattle.gsl_lower_types.proofs.blocks.classes_of.Goals as goal

pub loop-k-preserved : goal.loop-k-preserved
loop-k-preserved c =
    pushed (λ (block : Block). class_of c.args.target block.kind) c.args.blocks.now c.loop-k.k c.index.result.now c.loop-k.all c.push.new.self c.class_of.result c.in_ok-push.ensures.ok c.class_of.ensures c.index.ensures c.loop-k.invariant
