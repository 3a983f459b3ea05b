use Rattle.gsl_compute.proofs.Loops.{pushed}
use Rattle.gsl_tree.specs.declared.unit.BlockMember.{BlockMember}
use Rattle.gsl_lower_types.proofs.blocks.member_types.Goals as goal

pub loop-k-preserved : goal.loop-k-preserved
loop-k-preserved c =
    pushed (λ (member : BlockMember). member.ty) c.args.members.now c.loop-k.k c.index.result.now c.loop-k.all c.push.new.self c.in_ok-copy.field-0 c.in_ok-push.ensures.ok c.in_ok-copy.ensures c.index.ensures c.loop-k.invariant
