use Rattle.gsl_enact_memory.proofs.Storing.{Leads}
use Rattle.gsl_enact_memory.proofs.stores.before_it.Given as goal

abbrev pub invariant-loop-k : goal.invariant-loop-k
invariant-loop-k l = Leads l.buffers l.set l.binding l.k
