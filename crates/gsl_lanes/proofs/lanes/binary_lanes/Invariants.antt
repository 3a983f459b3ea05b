use Rattle.std.proofs.Common.{drop, take}
use Rattle.gsl_lanes.proofs.Each.{IsEach}
use Rattle.gsl_lanes.proofs.lanes.binary_lanes.Given as goal

abbrev pub invariant-loop-k : goal.invariant-loop-k
invariant-loop-k l =
    IsEach l.op l.signed (take l.k (take l.count (drop l.a l.initial.slots))) (take l.k (take l.count (drop l.b l.initial.slots))) l.initial.choices l.initial.slots l.slots l.at l.choices
