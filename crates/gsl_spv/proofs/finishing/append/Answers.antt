use Rattle.std.proofs.Common.{refl}
use Rattle.gsl_spv.proofs.Appending.{one_more}
use Rattle.gsl_spv.proofs.finishing.append.Goals as goal

pub loop-i-preserved : goal.loop-i-preserved
loop-i-preserved c =
    one_more c.args.section.now c.loop-i.i c.op.result c.args-in-loop-i.result.now c.args.code.now c.loop-i.code c.put.new.self _ refl
    c.op.ensures c.args-in-loop-i.ensures c.loop-i.invariant c.in_ok-put.ensures.ok
