use Rattle.std.proofs.Common.{ap, ◌∙◌}
use Rattle.gsl_pp.specs.Feeding.{feeds}
use Rattle.gsl_parse.specs.Fed.{answer}
use Rattle.gsl_parse.proofs.Sourced.{feed_answer, given}
use Rattle.gsl_parse.proofs.judging.parse_feed.Goals as goal

pub returns : goal.returns
returns c = given c.unit.result _ _ (ap answer c.in_ok-supply.ensures.comes ∙ feed_answer (feeds c.args.feed)) c.unit.ensures
