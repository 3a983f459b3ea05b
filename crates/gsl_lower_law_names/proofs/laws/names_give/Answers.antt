use Rattle.gsl_lower_law_names.proofs.Names.{global_gives, interface_gives, local_gives, param_gives}
use Rattle.gsl_lower_law_names.proofs.laws.names_give.Goals as goal

pub returns-clause-local : goal.returns-clause-local
returns-clause-local c = local_gives

pub returns-clause-param : goal.returns-clause-param
returns-clause-param c = param_gives

pub returns-clause-global : goal.returns-clause-global
returns-clause-global c = global_gives

pub returns-clause-interface : goal.returns-clause-interface
returns-clause-interface c = interface_gives
