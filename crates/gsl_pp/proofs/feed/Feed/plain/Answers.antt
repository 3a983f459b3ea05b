use Rattle.gsl_pp.proofs.Fed.{plain_here}
use Rattle.gsl_pp.proofs.feed.Feed.plain.Goals as goal

pub returns-clause-plain : goal.returns-clause-plain
returns-clause-plain c =
    plain_here c.args.self.now.state c.plain.new.state c.args.self.now.stream c.plain.new.stream c.args.self.now.rest c.plain.result c.plain.ensures
