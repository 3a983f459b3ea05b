use Rattle.gsl_lower_law_places.proofs.Stored.{put_acts}
use Rattle.gsl_lower_law_places.proofs.laws.stores_leave.Goals as goal

pub returns : goal.returns
returns c = λ m input whole id class shape parts value words from to v variables buffers state before points each leads is stands stores. put_acts m input whole id class shape parts value words from to v variables buffers state before points each leads is stands stores
