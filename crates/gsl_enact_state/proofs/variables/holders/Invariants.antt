use Rattle.std.proofs.Common.{◌≡◌, ◌++◌, map, drop}
use Rattle.gsl_kinds.specs.Seen.{variable_seen}
use Rattle.gsl_enact_state.specs.Variables.{holders}
use Rattle.gsl_enact_state.proofs.variables.holders.Given as goal

abbrev pub invariant-loop-at : goal.invariant-loop-at
invariant-loop-at l = map variable_seen l.found ++ holders l.blocks (drop l.at l.definitions.instrs) ≡ holders l.blocks l.definitions.instrs
