use Rattle.std.proofs.Common.{◌≡◌, drop}
use Rattle.gsl_lower_holders.specs.Flow.{each, flow_of, with_front}
use Rattle.gsl_lower_flow.specs.Functions.{variable}
use Rattle.gsl_lower_flow.proofs.functions.variables.Given as goal

abbrev pub invariant-loop-k : goal.invariant-loop-k
invariant-loop-k l = with_front l.ids (each variable (drop l.k l.types) (flow_of l.b l.p)) ≡ each variable l.types (flow_of l.initial.b l.p)
