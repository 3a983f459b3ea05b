use Rattle.std.proofs.Common.{◌≡◌, ◌++◌, drop, map}
use Rattle.gsl_meaning.specs.Stages as stages
use Rattle.gsl_perform_state.proofs.beginning.interfaces_begin.Given as goal

abbrev pub invariant-loop-k : goal.invariant-loop-k
invariant-loop-k l = l.all ++ map (stages.interface_begins l.shapes l.input) (drop l.k l.interfaces) ≡ map (stages.interface_begins l.shapes l.input) l.interfaces
