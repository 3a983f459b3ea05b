use Rattle.gsl_lower_law_picks.proofs.Pointed.{pointed_serves, whole_pointed}
use Rattle.gsl_lower_law_picks.proofs.laws.pointers_serve.Goals as goal

pub returns-clause-picked : goal.returns-clause-picked
returns-clause-picked c = λ m input whole id class shape parts p by words from to v state before stands each leads holds is picks fits few. pointed_serves m input whole id class parts p by words from to v state before stands each leads holds is picks fits few shape

pub returns-clause-all : goal.returns-clause-all
returns-clause-all c = λ m input whole id class shape parts words from to state before stands each leads. whole_pointed m input whole id class shape parts words from to state before stands each leads
