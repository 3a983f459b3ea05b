use Rattle.std.proofs.Common.{ap, ◌∙◌}
use Rattle.std.specs.List.{flat_map}
use Rattle.gsl_words.specs.Flat.{kept_words}
use Rattle.gsl_words.proofs.Flattened.{words_are}
use Rattle.gsl_words.proofs.instrs.Instrs.words.Goals as goal

pub returns : goal.returns
returns c = c.as_slice.ensures.value ∙ c.self.invariant.words_are ∙ ap (flat_map kept_words) c.self.view_is ∙ words_are c.args.self.now c.requires
