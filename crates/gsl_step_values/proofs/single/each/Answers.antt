use Rattle.std.proofs.Common.{◌≡◌, refl, ap, ◌∙◌, ◌+◌, ◌≤◌, length, take, drop, arith}
use Rattle.gsl_leaves.specs.Leaves.{leaves}
use Rattle.gsl_leaves.specs.Table.{told}
use Rattle.gsl_region.specs.Showing.{with_words}
use Rattle.gsl_step_values.specs.Values.{from, to, unary_words}
use Rattle.gsl_step_values.proofs.Two.{told_low}
use Rattle.gsl_step_values.proofs.single.each.Goals as goal

pub returns : goal.returns
returns c fits =
    let m = c.args.operands.now in
    let now = c.args.machine.now in
    let room = fits.room in
    let places = fits.places in
    let first = fits.behind.0 in
    let below = first.1 in
    let counted : c.leaves-count.result ≡ leaves m c.args.type_ = c.leaves-count.ensures ∙ ap (λ n. told (leaves n c.args.type_)) (c.leaves.ensures ∙ c.frames.ensures) ∙ told_low (leaves m c.args.type_) (omega (arith, room, places)) in
    let at : c.place-at.result ≡ to m now c.args.result_id = c.place-at.ensures (omega (arith, room, places)) in
    let x : c.stands-from.result ≡ from m now c.args.a = c.stands-from.ensures first.0 (omega (arith, below, room, places)) in
    let in_x : c.stands-from.result + c.leaves-count.result ≤ c.place-at.result = omega (arith, below, counted, at, x) in
    let in_slots : c.place-at.result + c.leaves-count.result ≤ length now.slots = omega (arith, room, counted, at) in
    record {
      standing = c.pass.ensures fits.number;
      callers = refl;
      slots = c.put_each.ensures in_x in_slots ∙ ap (λ n. with_words now.slots n (unary_words c.args.op c.leaves-count.result (take c.leaves-count.result (drop c.stands-from.result now.slots)))) at
          ∙ ap (λ n. with_words now.slots (to m now c.args.result_id) (unary_words c.args.op n (take n (drop c.stands-from.result now.slots)))) counted
          ∙ ap (λ n. with_words now.slots (to m now c.args.result_id) (unary_words c.args.op (leaves m c.args.type_) (take (leaves m c.args.type_) (drop n now.slots)))) x;
      variables = refl;
      buffers = refl;
      left = refl;
    }
