use Rattle.gsl_fitting_shapes.proofs.Switches.{switch_apart, switch_named, switch_none}
use Rattle.gsl_fitting_shapes.proofs.laws.switches_fit.Goals as goal

pub returns-clause-named : goal.returns-clause-named
returns-clause-named c = switch_named

pub returns-clause-none : goal.returns-clause-none
returns-clause-none c = switch_none

pub returns-clause-apart : goal.returns-clause-apart
returns-clause-apart c = switch_apart
