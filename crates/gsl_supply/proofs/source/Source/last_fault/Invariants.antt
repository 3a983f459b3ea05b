use Rattle.std.proofs.Common.{◌≡◌, length}
use Rattle.gsl_supply.specs.Supplying.{undrawn}
use Rattle.gsl_supply.proofs.source.Source.last_fault.Given as goal

abbrev pub invariant-loop-fault : goal.invariant-loop-fault
invariant-loop-fault l = (undrawn l.self).fault ≡ (undrawn l.fn.self).fault

abbrev pub decreases-loop-fault : goal.decreases-loop-fault
decreases-loop-fault l = length (undrawn l.self).tokens
