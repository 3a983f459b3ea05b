use Rattle.std.proofs.Common.{◌≡◌, ◌++◌, length, map}
use Rattle.gsl_kinds.specs.Seen.{variable_seen}
use Rattle.gsl_machine.specs.Interfaces.{variable_begins}
use Rattle.gsl_enact_interfaces.proofs.beginning.begin_each.Given as goal

abbrev pub invariant-loop-rest : goal.invariant-loop-rest
invariant-loop-rest l = l.values ++ map (variable_begins l.decorations l.input) (map variable_seen l.rest) ≡ map (variable_begins l.decorations l.input) (map variable_seen l.holders)

abbrev pub decreases-loop-rest : goal.decreases-loop-rest
decreases-loop-rest l = length l.rest
