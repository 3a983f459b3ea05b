use Rattle.gsl_lower_law_places.proofs.Chains.{pointer_does}
use Rattle.gsl_lower_law_places.proofs.laws.pointers_lead.Goals as goal

pub returns : goal.returns
returns c = λ m input whole id class pointee parts words from to state before stands each leads. pointer_does m input whole id class pointee parts words from to state before stands each leads
