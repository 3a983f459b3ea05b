use Rattle.std.proofs.Common.{◌∙◌, ◌+◌, ◌*◌, ◌≤◌, ap, arith, length, sym}
use Rattle.gsl_region.specs.Showing.{as_words}
use Rattle.gsl_region.proofs.Copies.{fits, read_is}
use Rattle.gsl_region.proofs.region.Region.word.Goals as goal

pub word_of-requires-clause-within : goal.word_of-requires-clause-within
word_of-requires-clause-within c =
    let enough : 4 * (c.args.place + 1) ≤ length c.as_slice.result.now = fits c.args.self.now _ _ (sym c.self.view_is ∙ ap as_words (sym c.as_slice.ensures.value)) (omega (arith, c.requires)) in
    omega (arith, enough)

pub returns : goal.returns
returns c = read_is c.args.self.now c.as_slice.result.now c.args.place c.word_of.result (sym c.self.view_is ∙ ap as_words (sym c.as_slice.ensures.value)) c.requires c.word_of.ensures
