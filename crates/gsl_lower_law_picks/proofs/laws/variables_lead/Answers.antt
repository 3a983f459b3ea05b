use Rattle.gsl_lower_law_picks.proofs.Along.{words_lead, words_stray}
use Rattle.gsl_lower_law_picks.proofs.laws.variables_lead.Goals as goal

pub returns-clause-leads : goal.returns-clause-leads
returns-clause-leads c = λ m input state number path words old there has. words_lead m input state number old there path words has

pub returns-clause-strays : goal.returns-clause-strays
returns-clause-strays c = λ m input state number path words old there lacks. words_stray m input state number old there path words lacks
