use Rattle.std.proofs.Common.{◌≡◌, drop}
use Rattle.gsl_link_calls.specs.Calls as calls
use Rattle.gsl_lower_flow.proofs.reaching.called_by.Given as goal

abbrev pub invariant-loop-k : goal.invariant-loop-k
invariant-loop-k l = calls.called_by (drop l.k l.functions) l.head ≡ calls.called_by l.functions l.head
