use Rattle.std.proofs.Common.{◌≡◌, drop}
use Rattle.gsl_lower_holders.specs.Flow.{each, flow_of, with_front}
use Rattle.gsl_lower_holders.specs.Waiting as spec
use Rattle.gsl_lower_holders.proofs.waiting.keep_parts.Given as goal

abbrev pub invariant-loop-k : goal.invariant-loop-k
invariant-loop-k l = with_front l.all (each spec.keep_part (drop l.k l.parts) (flow_of l.b l.p)) ≡ each spec.keep_part l.parts (flow_of l.initial.b l.initial.p)
