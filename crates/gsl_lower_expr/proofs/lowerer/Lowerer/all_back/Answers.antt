use Rattle.std.proofs.Common.{map}
use Rattle.std.proofs.lemmas.Result.{err_from_is_err_and}
use Rattle.gsl_tree.specs.Trees.{type_of}
use Rattle.gsl_lower_holders.specs.Flow.{flow_of}
use Rattle.gsl_lower_expr.specs.Calls.{all_back}
use Rattle.gsl_lower_expr.proofs.Passing.{back_ends, back_on, back_stops}
use Rattle.gsl_lower_expr.proofs.lowerer.Lowerer.all_back.Goals as goal

pub returns-in_err-back : goal.returns-in_err-back
returns-in_err-back c =
    let p = err_from_is_err_and c.from_residual.result c.from_residual.ensures.1 in
    rw (p.1, p.2) (back_stops c.args.self.now.shapes.now c.args.passed.now c.args.params.now c.args.es.now c.loop-k.k c.passed_at.result.now c.param_at-param.result.now c.expr_at-e.result.now _ (flow_of c.loop-k.b c.args.p.now)
    (all_back c.args.self.now.shapes.now c.args.passed.now c.args.params.now (map type_of c.args.es.now) (flow_of c.args.b.now c.args.p.now)) c.passed_at.ensures c.param_at-param.ensures c.expr_at-e.ensures c.in_err-back.ensures c.loop-k.invariant)

pub loop-k-preserved : goal.loop-k-preserved
loop-k-preserved c =
    back_on c.args.self.now.shapes.now c.args.passed.now c.args.params.now c.args.es.now c.loop-k.k c.passed_at.result.now c.param_at-param.result.now c.expr_at-e.result.now _ (flow_of c.loop-k.b c.args.p.now) (flow_of c.back.new.b c.args.p.now)
    (all_back c.args.self.now.shapes.now c.args.passed.now c.args.params.now (map type_of c.args.es.now) (flow_of c.args.b.now c.args.p.now)) c.passed_at.ensures c.param_at-param.ensures c.expr_at-e.ensures c.in_ok-back.ensures c.loop-k.invariant

pub returns : goal.returns
returns c = back_ends c.args.self.now.shapes.now c.args.passed.now c.args.params.now c.args.es.now c.loop-k.k (flow_of c.loop-k.b c.args.p.now) _ c.loop-k-test.false c.loop-k.invariant
