use Rattle.std.proofs.Common.{◌∙◌}
use Rattle.gsl_link_names.proofs.Layable.{is_there, one_more}
use Rattle.gsl_link_names.proofs.laying.first_offsets.Goals as goal

pub offset-requires : goal.offset-requires
offset-requires c = is_there c.args.laid.now c.loop-k.k c.args.count c.loop-k-test.true c.requires.all

pub loop-k-preserved : goal.loop-k-preserved
loop-k-preserved c = c.in_ok-push.ensures.ok ∙ one_more c.args.laid.now c.loop-k.k c.offset.result c.loop-k.all c.offset.ensures c.loop-k.invariant
