use Rattle.gsl_lower_law_names.proofs.Assigned.{assign_global, assign_interface, assign_local, assign_param}
use Rattle.gsl_lower_law_names.proofs.laws.names_are_assigned.Goals as goal

pub returns-clause-local : goal.returns-clause-local
returns-clause-local c = assign_local

pub returns-clause-param : goal.returns-clause-param
returns-clause-param c = assign_param

pub returns-clause-global : goal.returns-clause-global
returns-clause-global c = assign_global

pub returns-clause-interface : goal.returns-clause-interface
returns-clause-interface c = assign_interface
