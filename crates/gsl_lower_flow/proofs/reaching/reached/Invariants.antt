use Rattle.std.proofs.Common.{◌-◌, ◌^◌}
use Rattle.gsl_link_calls.proofs.Searched.{Searched}
use Rattle.gsl_lower_flow.proofs.Found.{none}
use Rattle.gsl_lower_flow.proofs.reaching.reached.Given as goal

abbrev pub invariant-loop-at : goal.invariant-loop-at
invariant-loop-at l = Searched l.functions l.main none l.found.keys l.at

abbrev pub decreases-loop-at : goal.decreases-loop-at
decreases-loop-at l = 2 ^ 63 - l.at
