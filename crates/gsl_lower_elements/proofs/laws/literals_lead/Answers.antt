use Rattle.gsl_lower_elements.proofs.Literal.{literal_place}
use Rattle.gsl_lower_elements.proofs.laws.literals_lead.Goals as goal

pub returns : goal.returns
returns c m input sections f p around splits loose writes t number a i run index are is known less gives = literal_place m input sections f p around are splits loose writes t number a i run index is known less gives
