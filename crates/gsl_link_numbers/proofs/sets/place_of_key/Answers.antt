use Rattle.std.proofs.Common.{sym, ◌∙◌}
use Rattle.std.specs.Prelude.{bytes_eq}
use Rattle.gsl_link_numbers.proofs.Places.{none_found}
use Rattle.gsl_link_numbers.proofs.sets.place_of_key.Goals as goal

pub returns-in-None : goal.returns-in-None
returns-in-None c = c.len.ensures.len ∙ none_found (bytes_eq c.args.key.now) c.args.keys.now.keys (sym c.get_index_of.ensures.index ∙ c.in-None.is)
