use Rattle.std.proofs.Common.{arith}
use Rattle.gsl_lower_flow.specs.Programs as spec
use Rattle.gsl_lower_flow.specs.Reaching.{is_among}
use Rattle.gsl_lower_flow.proofs.Rows.{asked_end, asked_on}
use Rattle.gsl_lower_flow.proofs.program.asked_all.Goals as goal

pub loop-k-preserved : goal.loop-k-preserved
loop-k-preserved c =
    let is = is_among c.args.found.now.keys c.args.main in
    asked_on is c.args.asker.now.prototypes.now c.args.functions.now c.loop-k.k c.function_at-f.result.now _ c.loop-k.asked c.asked_if.new.asked (spec.asked_all is c.args.asker.now.prototypes.now c.args.functions.now c.args.asked.now)
    c.function_at-f.ensures c.is_among.result c.is_among.ensures c.in_ok-asked_if.ensures c.loop-k.invariant

pub returns : goal.returns
returns c =
    let is = is_among c.args.found.now.keys c.args.main in
    asked_end is c.args.asker.now.prototypes.now c.args.functions.now c.loop-k.k c.loop-k.asked (spec.asked_all is c.args.asker.now.prototypes.now c.args.functions.now c.args.asked.now) (omega (arith, c.loop-k-test.false, c.len-k-end.ensures)) c.loop-k.invariant
