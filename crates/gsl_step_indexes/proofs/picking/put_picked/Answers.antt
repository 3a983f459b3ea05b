use Rattle.std.proofs.Common.{◌≡◌, refl, ap, ◌∙◌, ◌+◌, [], ◌∷◌, arith}
use Rattle.std.specs.Prelude.{min, slice_index}
use Rattle.gsl_region.specs.Showing.{with_words}
use Rattle.gsl_frames.specs.Frames.{place}
use Rattle.gsl_operands.specs.Operands.{stands}
use Rattle.gsl_step_indexes.proofs.picking.put_picked.Goals as goal

pub returns : goal.returns
returns c fits =
    let m = c.args.operands.now in
    let now = c.args.machine.now in
    let room = fits.room in
    let within = fits.within in
    let places = fits.places in
    let at : c.place-at.result ≡ now.standing.slots + place m c.args.result_id = c.place-at.ensures (omega (arith, room, places)) in
    let x : c.stands-from.result ≡ stands m now.standing.slots c.args.vector = c.stands-from.ensures fits.low (omega (arith, within, places)) in
    let spot : c.saturating_add.result ≡ stands m now.standing.slots c.args.vector + c.args.number = (let sum = c.saturating_add.ensures in omega (arith, sum, x, within, places)) in
    let word : c.word_at-word.result ≡ slice_index now.slots (stands m now.standing.slots c.args.vector + c.args.number) = c.word_at-word.ensures (omega (arith, spot, within)) ∙ ap (slice_index now.slots) spot in
    record {
      standing = c.pass.ensures fits.number_fits;
      callers = refl;
      slots = c.put_one.ensures (omega (arith, room, at)) ∙ ap (λ n. with_words now.slots n (c.word_at-word.result ∷ [])) at ∙ ap (λ w. with_words now.slots (now.standing.slots + place m c.args.result_id) (w ∷ [])) word;
      variables = refl;
      buffers = refl;
      left = refl;
    }
