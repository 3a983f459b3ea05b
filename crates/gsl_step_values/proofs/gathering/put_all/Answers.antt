use Rattle.std.proofs.Common.{◌≡◌, refl, ap, ◌∙◌, subst, ◌≤◌, length, arith}
use Rattle.gsl_region.specs.Showing.{with_words}
use Rattle.gsl_step_values.specs.Parts.{HasRoomToGather, gathered}
use Rattle.gsl_step_values.specs.Values.{to}
use Rattle.gsl_step_values.proofs.gathering.put_all.Goals as goal

pub returns : goal.returns
returns c fits number =
    let m = c.args.operands.now in
    let now = c.args.machine.now in
    let base = now.standing.slots in
    let room = fits.room in
    let places = fits.places in
    let at : c.place-at.result ≡ to m now c.args.result_id = c.place-at.ensures (omega (arith, room, places)) in
    record {
      standing = c.pass.ensures number;
      callers = refl;
      slots = subst (λ n. HasRoomToGather m base n now.slots c.args.parts.now → c.gather.new.slots ≡ with_words now.slots n (gathered m base now.slots c.args.parts.now)) at c.gather.ensures fits;
      variables = refl;
      buffers = refl;
      left = refl;
    }
