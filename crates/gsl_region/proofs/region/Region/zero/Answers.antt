use Rattle.std.proofs.Common.{◌∙◌, ap, sym}
use Rattle.gsl_region.specs.Showing.{as_words}
use Rattle.gsl_region.proofs.Copies.{fits}
use Rattle.gsl_region.proofs.region.Region.zero.Goals as goal

pub zero_from-requires-clause-within : goal.zero_from-requires-clause-within
zero_from-requires-clause-within c = fits c.args.self.now _ _ (sym c.self.view_is ∙ ap as_words (sym c.as_mut_slice.ensures.value)) c.requires
