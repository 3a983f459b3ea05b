use Rattle.std.proofs.Common.{◌≡◌, refl, ap, ◌∙◌, ◌+◌, ◌≤◌, length, take, drop, arith}
use Rattle.gsl_region.specs.Showing.{with_words}
use Rattle.gsl_leaves.specs.Leaves.{leaves}
use Rattle.gsl_leaves.specs.Table.{told}
use Rattle.gsl_frames.specs.Frames.{place}
use Rattle.gsl_step_values.proofs.Two.{told_low}
use Rattle.gsl_step_memory.proofs.loading.put_loaded.Goals as goal

pub returns : goal.returns
returns c fits =
    let m = c.args.operands.now in
    let now = c.args.machine.now in
    let room = fits.room in
    let within = fits.within in
    let places = fits.places in
    let counted : c.leaves-count.result ≡ leaves m c.args.type_ = c.leaves-count.ensures ∙ ap (λ n. told (leaves n c.args.type_)) (c.leaves.ensures ∙ c.frames.ensures) ∙ told_low (leaves m c.args.type_) (omega (arith, room, places)) in
    let at : c.place-at.result ≡ now.standing.slots + place m c.args.result_id = c.place-at.ensures (omega (arith, room, places)) in
    record {
      standing = c.pass.ensures fits.number;
      callers = refl;
      slots = c.copy_out.ensures (omega (arith, within, counted)) (omega (arith, room, counted, at)) ∙ ap (λ n. with_words now.slots n (take c.leaves-count.result (drop c.args.from now.words))) at
          ∙ ap (λ n. with_words now.slots (now.standing.slots + place m c.args.result_id) (take n (drop c.args.from now.words))) counted;
      variables = refl;
      buffers = refl;
      left = refl;
    }
