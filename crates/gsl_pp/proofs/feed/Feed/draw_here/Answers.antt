use Rattle.gsl_pp.proofs.Fed.{draws_here}
use Rattle.gsl_pp.proofs.feed.Feed.draw_here.Goals as goal

pub returns-clause-drawn : goal.returns-clause-drawn
returns-clause-drawn c =
    draws_here c.args.self.now.state c.draw.new.state c.args.self.now.stream c.draw.new.stream c.args.self.now.rest c.draw.result c.draw.ensures.kept c.draw.ensures.drawn
