use Rattle.std.proofs.Common.{arith}
use Rattle.std.proofs.lemmas.Result.{err_from_is_err_and}
use Rattle.gsl_lower_expr.specs.Coming.{setting_of}
use Rattle.gsl_lower_holders.specs.Flow.{flow_of}
use Rattle.gsl_lower_flow.specs.Programs as spec
use Rattle.gsl_lower_flow.specs.Reaching.{is_among}
use Rattle.gsl_lower_flow.proofs.Rows.{put_end, put_on, put_stops}
use Rattle.gsl_lower_flow.proofs.program.functions_put.Goals as goal

pub returns-in_err-put_if : goal.returns-in_err-put_if
returns-in_err-put_if c =
    let is = is_among c.args.found.now.keys c.args.main in
    let p = err_from_is_err_and c.from_residual.result c.from_residual.ensures.1 in
    rw (p.1, p.2) (put_stops is c.args.lowerer.now.prototypes.now c.args.functions.now (setting_of c.args.lowerer.now.shapes.now c.args.lowerer.now.interfaces.now c.args.lowerer.now.prototypes.now) c.loop-k.k c.function_at-f.result.now _ (flow_of c.loop-k.b c.loop-k.p) (spec.functions_put is (setting_of c.args.lowerer.now.shapes.now c.args.lowerer.now.interfaces.now c.args.lowerer.now.prototypes.now) c.args.lowerer.now.prototypes.now c.args.functions.now (flow_of c.args.b.now c.args.p.now))
    c.function_at-f.ensures c.is_among.result c.is_among.ensures c.in_err-put_if.ensures c.loop-k.invariant)

pub loop-k-preserved : goal.loop-k-preserved
loop-k-preserved c =
    let is = is_among c.args.found.now.keys c.args.main in
    put_on is c.args.lowerer.now.prototypes.now c.args.functions.now (setting_of c.args.lowerer.now.shapes.now c.args.lowerer.now.interfaces.now c.args.lowerer.now.prototypes.now) c.loop-k.k c.function_at-f.result.now _ (flow_of c.loop-k.b c.loop-k.p) (flow_of c.put_if.new.b c.put_if.new.p) (spec.functions_put is (setting_of c.args.lowerer.now.shapes.now c.args.lowerer.now.interfaces.now c.args.lowerer.now.prototypes.now) c.args.lowerer.now.prototypes.now c.args.functions.now (flow_of c.args.b.now c.args.p.now))
    c.function_at-f.ensures c.is_among.result c.is_among.ensures c.in_ok-put_if.ensures c.loop-k.invariant

pub returns : goal.returns
returns c =
    let is = is_among c.args.found.now.keys c.args.main in
    put_end is c.args.lowerer.now.prototypes.now c.args.functions.now (setting_of c.args.lowerer.now.shapes.now c.args.lowerer.now.interfaces.now c.args.lowerer.now.prototypes.now) c.loop-k.k (flow_of c.loop-k.b c.loop-k.p) (spec.functions_put is (setting_of c.args.lowerer.now.shapes.now c.args.lowerer.now.interfaces.now c.args.lowerer.now.prototypes.now) c.args.lowerer.now.prototypes.now c.args.functions.now (flow_of c.args.b.now c.args.p.now)) (omega (arith, c.loop-k-test.false, c.len-k-end.ensures)) c.loop-k.invariant
