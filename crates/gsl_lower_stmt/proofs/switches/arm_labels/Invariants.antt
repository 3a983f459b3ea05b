use Rattle.std.proofs.Common.{◌≡◌, drop, map}
use Rattle.gsl_lower_holders.specs.Flow.{each, flow_of, fresh, with_front}
use Rattle.gsl_lower_stmt.specs.Coming.{words_in}
use Rattle.gsl_lower_stmt.proofs.switches.arm_labels.Given as goal

abbrev pub invariant-loop-k : goal.invariant-loop-k
invariant-loop-k l = with_front l.labels (each (λ one. fresh) (map words_in (drop l.k l.arms)) (flow_of l.b l.p)) ≡ each (λ one. fresh) (map words_in l.arms) (flow_of l.initial.b l.p)
