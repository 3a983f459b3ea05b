use Rattle.std.proofs.Common.{◌∙◌, ap, sym}
use Rattle.gsl_region.specs.Showing.{as_words}
use Rattle.gsl_region.proofs.Copies.{fits}
use Rattle.gsl_region.proofs.region.Region.load.Goals as goal

pub load_from-requires-clause-within : goal.load_from-requires-clause-within
load_from-requires-clause-within c = fits c.args.self.now _ _ (sym c.self.view_is ∙ ap as_words (sym c.as_slice.ensures.value)) c.requires
