use Rattle.gsl_lower_law_blocks.proofs.Laid.{paths_lead}
use Rattle.gsl_lower_law_blocks.proofs.laws.layouts_lead.Goals as goal

pub returns : goal.returns
returns c = λ m input variable size at type l part path offset lie leads. paths_lead m input variable size l part at type offset path lie leads
