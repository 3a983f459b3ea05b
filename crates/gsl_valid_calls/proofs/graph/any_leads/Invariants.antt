use Rattle.std.proofs.Common.{◌≡◌, length}
use Rattle.std.specs.List.{list_any}
use Rattle.gsl_valid.specs.CallRules.{leads_to}
use Rattle.gsl_valid_calls.proofs.graph.any_leads.Given as goal

abbrev pub invariant-loop-callee : goal.invariant-loop-callee
invariant-loop-callee l = list_any (λ next. leads_to l.calls next l.id) l.callees ≡ list_any (λ next. leads_to l.calls next l.id) l.fn.callees

abbrev pub decreases-loop-callee : goal.decreases-loop-callee
decreases-loop-callee l = length l.callees
