use Rattle.std.proofs.Common.{◌-◌, ◌^◌}
use Rattle.gsl_valid_calls.proofs.Searched.{Searched}
use Rattle.gsl_valid_calls.proofs.search.leads_to.Given as goal

abbrev pub invariant-loop-at : goal.invariant-loop-at
invariant-loop-at l = Searched l.definitions l.from l.id l.found.keys l.at

abbrev pub decreases-loop-at : goal.decreases-loop-at
decreases-loop-at l = 2 ^ 63 - l.at
