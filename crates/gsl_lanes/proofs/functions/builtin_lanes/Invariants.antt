use Rattle.std.proofs.Common.{map}
use Rattle.gsl_lanes.specs.Operands.{words_at}
use Rattle.gsl_lanes.proofs.Given.{IsGiven}
use Rattle.gsl_lanes.proofs.functions.builtin_lanes.Given as goal

abbrev pub invariant-loop-k : goal.invariant-loop-k
invariant-loop-k l = IsGiven l.which l.signed (map (words_at l.initial.slots) l.operands) l.initial.choices l.initial.slots l.slots l.at l.k l.choices
