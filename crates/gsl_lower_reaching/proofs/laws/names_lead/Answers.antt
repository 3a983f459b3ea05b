use Rattle.gsl_lower_reaching.proofs.Places.{global_place, interface_place, local_place, param_place}
use Rattle.gsl_lower_reaching.proofs.laws.names_lead.Goals as goal

pub returns-clause-local : goal.returns-clause-local
returns-clause-local c = local_place

pub returns-clause-param : goal.returns-clause-param
returns-clause-param c = param_place

pub returns-clause-global : goal.returns-clause-global
returns-clause-global c = global_place

pub returns-clause-interface : goal.returns-clause-interface
returns-clause-interface c = interface_place
