use Rattle.std.proofs.Common.{ap, ◌∙◌}
use Rattle.gsl_inputs.specs.Demands.{all_below}
use Rattle.gsl_enact_fits.specs.Passes.{size_or}
use Rattle.gsl_enact_fits.proofs.Walked.{size_is}
use Rattle.gsl_enact_fits.proofs.ids.is_in_its_group.Goals as goal

pub returns : goal.returns
returns c = c.is_in_group.ensures ∙ ap (all_below c.args.local.now) (ap size_or c.local_size.ensures ∙ size_is c.args.definitions.now)
