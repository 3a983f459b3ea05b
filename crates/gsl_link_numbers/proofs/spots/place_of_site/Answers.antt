use Rattle.std.proofs.Common.{sym, ◌∙◌}
use Rattle.gsl_link_numbers.specs.Standing as spec
use Rattle.gsl_link_numbers.proofs.Places.{none_found}
use Rattle.gsl_link_numbers.proofs.spots.place_of_site.Goals as goal

pub returns-in-None : goal.returns-in-None
returns-in-None c = c.len.ensures.len ∙ none_found (spec.site_eq c.args.site) c.args.sites.now.keys (sym c.get_index_of.ensures.index ∙ c.in-None.is)
