use Rattle.gsl_region.proofs.Focus.{front_on, leads_on, value_on}
use Rattle.gsl_region.proofs.laws.chains_add_up.Goals as goal

pub returns-clause-leads : goal.returns-clause-leads
returns-clause-leads c = leads_on

pub returns-clause-value : goal.returns-clause-value
returns-clause-value c = value_on

pub returns-clause-front : goal.returns-clause-front
returns-clause-front c = front_on
