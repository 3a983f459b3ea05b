use Rattle.gsl_lower_flow.specs.Programs as spec
use Rattle.gsl_lower_flow.proofs.Rows.{used_at, used_on}
use Rattle.gsl_lower_flow.proofs.declaring.uses.Goals as goal

pub returns-then-is_var : goal.returns-then-is_var
returns-then-is_var c = used_at c.args.asked.now c.args.var c.loop-k.k c.index.result.now (spec.uses c.args.asked.now c.args.var) c.is_var.result c.index.ensures c.is_var.ensures c.if-is_var.true c.loop-k.invariant

pub loop-k-preserved : goal.loop-k-preserved
loop-k-preserved c = used_on c.args.asked.now c.args.var c.loop-k.k c.index.result.now (spec.uses c.args.asked.now c.args.var) c.is_var.result c.index.ensures c.is_var.ensures c.if-is_var.false c.loop-k.invariant
