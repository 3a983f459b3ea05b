use Rattle.std.proofs.Common.{◌≡◌, ap, ◌∙◌}
use Rattle.gsl_link_calls.specs.Calls.{called_by}
use Rattle.gsl_link_calls.specs.Depths as spec
use Rattle.gsl_link_calls.proofs.Deep.{row_put}
use Rattle.gsl_link_calls.proofs.depth.made_again.Goals as goal

pub loop-head-preserved : goal.loop-head-preserved
loop-head-preserved c =
    row_put (λ head. spec.deepest c.args.old.now (called_by c.args.table.now head)) c.loop-head.head c.loop-head.rows.items c.push.new.self.items c.deepest.result
    c.in_ok-push.ensures.items (c.deepest.ensures ∙ ap (spec.deepest c.args.old.now) c.callees.ensures) c.loop-head.invariant
