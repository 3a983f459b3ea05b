use Rattle.gsl_lower_law_views.proofs.Stored.{all_seen, one_seen}
use Rattle.gsl_lower_law_views.proofs.laws.stores_are_seen.Goals as goal

pub returns-clause-all : goal.returns-clause-all
returns-clause-all c = λ l at offset components path words bytes is fits leads some long small. all_seen l at offset components path is words bytes fits leads some long small

pub returns-clause-one : goal.returns-clause-one
returns-clause-one c = λ l at offset components component word path bytes is fits leads below small. one_seen l at offset components path is bytes component word fits leads below small
