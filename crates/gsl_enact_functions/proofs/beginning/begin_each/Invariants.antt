use Rattle.std.proofs.Common.{◌≡◌, ◌++◌, length, map}
use Rattle.gsl_kinds.specs.Seen.{variable_seen}
use Rattle.gsl_machine.specs.Functions.{begins_as}
use Rattle.gsl_enact_functions.proofs.beginning.begin_each.Given as goal

abbrev pub invariant-loop-rest : goal.invariant-loop-rest
invariant-loop-rest l = l.variables ++ map (begins_as l.definitions) (map variable_seen l.rest) ≡ l.initial.variables ++ map (begins_as l.definitions) (map variable_seen l.holders)

abbrev pub decreases-loop-rest : goal.decreases-loop-rest
decreases-loop-rest l = length l.rest
