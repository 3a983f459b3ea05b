use Rattle.std.proofs.Common.{◌≡◌, drop}
use Rattle.gsl_lower_holders.specs.Flow.{each, flow_of, with_front}
use Rattle.gsl_lower_flow.specs.Functions.{parameter_type}
use Rattle.gsl_lower_flow.proofs.functions.parameter_types.Given as goal

abbrev pub invariant-loop-k : goal.invariant-loop-k
invariant-loop-k l = with_front l.ids (each parameter_type (drop l.k l.params) (flow_of l.b l.p)) ≡ each parameter_type l.params (flow_of l.initial.b l.p)
