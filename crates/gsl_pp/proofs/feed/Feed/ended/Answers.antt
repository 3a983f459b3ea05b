use Rattle.gsl_pp.proofs.Fed.{ended_rest}
use Rattle.gsl_pp.proofs.feed.Feed.ended.Goals as goal

pub returns : goal.returns
returns c = ended_rest _ c.empty.result c.none.result c.empty.ensures c.none.ensures c.new-2.ensures
