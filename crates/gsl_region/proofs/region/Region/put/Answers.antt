use Rattle.std.proofs.Common.{◌∙◌, ◌+◌, ◌*◌, ◌≤◌, ap, arith, length, sym}
use Rattle.std.proofs.lemmas.List.{with_items_is}
use Rattle.gsl_region.specs.Showing.{as_words}
use Rattle.gsl_region.proofs.Copies.{fits, put_is}
use Rattle.gsl_region.proofs.region.Region.put.Goals as goal

pub put_word_of-requires-clause-within : goal.put_word_of-requires-clause-within
put_word_of-requires-clause-within c =
    let enough : 4 * (c.args.place + 1) ≤ length c.as_mut_slice.result.now = fits c.args.self.now _ _ (sym c.self.view_is ∙ ap as_words (sym c.as_mut_slice.ensures.value)) (omega (arith, c.requires)) in
    omega (arith, enough)

pub returns : goal.returns
returns c =
    ap as_words (with_items_is c.self.inside.bytes c.put_word_of.new.bytes (c.put_word_of.auto.bytes ∙ c.as_mut_slice.ensures.len) ∙ c.put_word_of.ensures)
    ∙ put_is c.args.self.now c.as_mut_slice.result.now c.args.place c.args.word (sym c.self.view_is ∙ ap as_words (sym c.as_mut_slice.ensures.value)) c.requires (omega (arith, c.ranges.word.fits))
