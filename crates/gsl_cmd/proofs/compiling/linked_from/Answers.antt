use Rattle.gsl_cmd.proofs.Verdicts.{linkable, made_is_linked}
use Rattle.gsl_cmd.proofs.compiling.linked_from.Goals as goal

pub link-requires : goal.link-requires
link-requires c = record { known = linkable c.args.stage c.args.sources.now c.in_ok-units.units c.in_ok-units.ensures }

pub returns-clause-linked : goal.returns-clause-linked
returns-clause-linked c = made_is_linked c.args.stage c.args.sources.now c.in_ok-units.units c.link.result c.requires.few c.in_ok-units.ensures c.link.ensures
