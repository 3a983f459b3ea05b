use Rattle.std.proofs.Common.{◌≡◌, refl, ap, ◌∙◌, ◌+◌, ◌∷◌, arith}
use Rattle.gsl_region.specs.Showing.{with_words}
use Rattle.gsl_frames.specs.Frames.{place}
use Rattle.gsl_shown.specs.Shown.{two_words}
use Rattle.gsl_step_indexes.proofs.chaining.put_led.Goals as goal

pub returns : goal.returns
returns c fits =
    let m = c.args.operands.now in
    let now = c.args.machine.now in
    let room = fits.room in
    let places = fits.places in
    let at : c.place-at.result ≡ now.standing.slots + place m c.args.result_id = c.place-at.ensures (omega (arith, room, places)) in
    record {
      standing = c.pass.ensures fits.number;
      callers = refl;
      slots = c.put_pointer.ensures (omega (arith, room, at)) ∙ ap (λ n. with_words now.slots n (0 ∷ two_words c.args.place)) at;
      variables = refl;
      buffers = refl;
      left = refl;
    }
