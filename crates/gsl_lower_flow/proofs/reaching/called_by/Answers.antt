use Rattle.std.proofs.Common.{◌≡◌, subst}
use Rattle.std.specs.Prelude.{IfOk}
use Rattle.gsl_link_calls.specs.Calls as calls
use Rattle.gsl_lower_flow.proofs.Rows.{called_at, called_on}
use Rattle.gsl_lower_flow.proofs.reaching.called_by.Goals as goal

pub returns-then-f-head : goal.returns-then-f-head
returns-then-f-head c =
    subst (λ l. IfOk c.calls_of.result (λ heads. heads ≡ l))
    (called_at c.args.functions.now c.args.head c.loop-k.k c.function_at-f.result.now (calls.called_by c.args.functions.now c.args.head) c.function_at-f.ensures c.if-f-head.true c.loop-k.invariant) c.calls_of.ensures

pub loop-k-preserved : goal.loop-k-preserved
loop-k-preserved c = called_on c.args.functions.now c.args.head c.loop-k.k c.function_at-f.result.now (calls.called_by c.args.functions.now c.args.head) c.function_at-f.ensures c.if-f-head.false c.loop-k.invariant
