use Rattle.std.proofs.Common.{◌≡◌, drop}
use Rattle.gsl_lower_holders.specs.Flow.{each, flow_of, with_front}
use Rattle.gsl_lower_flow.specs.Functions.{parameter}
use Rattle.gsl_lower_flow.proofs.functions.parameters.Given as goal

abbrev pub invariant-loop-k : goal.invariant-loop-k
invariant-loop-k l = with_front l.ids (each parameter (drop l.k l.pointers) (flow_of l.b l.p)) ≡ each parameter l.pointers (flow_of l.initial.b l.p)
