use Rattle.std.proofs.Common.{◌≡◌, refl, sym, ap, ◌∙◌, ◌+◌, ◌≤◌, ℕ, List, length, take, drop, arith}
use Rattle.gsl_values.specs.Vectors.{binary_each}
use Rattle.gsl_leaves.specs.Leaves.{leaves}
use Rattle.gsl_leaves.specs.Table.{told}
use Rattle.gsl_region.specs.Showing.{with_words}
use Rattle.gsl_step_values.specs.Values.{from, to}
use Rattle.gsl_step_values.proofs.Two.{told_low}
use Rattle.gsl_step_values.proofs.operators.two.Goals as goal

pub returns : goal.returns
returns c fits =
    let m = c.args.operands.now in
    let now = c.args.machine.now in
    let op = c.args.operator.0 in
    let signed = c.args.operator.1 in
    let room = fits.room in
    let places = fits.places in
    let first = fits.behind.0 in
    let second = fits.behind.1.0 in
    let below_x = first.1 in
    let below_y = second.1 in
    let counted : c.leaves-count.result ≡ leaves m c.args.type_ = c.leaves-count.ensures ∙ ap (λ n. told (leaves n c.args.type_)) (c.leaves.ensures ∙ c.frames.ensures) ∙ told_low (leaves m c.args.type_) (omega (arith, room, places)) in
    let at : c.place-at.result ≡ to m now c.args.result_id = c.place-at.ensures (omega (arith, room, places)) in
    let x : c.stands-x.result ≡ from m now c.args.a = c.stands-x.ensures first.0 (omega (arith, below_x, room, places)) in
    let y : c.stands-y.result ≡ from m now c.args.b = c.stands-y.ensures second.0 (omega (arith, below_y, room, places)) in
    let in_x : c.stands-x.result + c.leaves-count.result ≤ c.place-at.result = omega (arith, below_x, counted, at, x) in
    let in_y : c.stands-y.result + c.leaves-count.result ≤ c.place-at.result = omega (arith, below_y, counted, at, y) in
    let in_slots : c.place-at.result + c.leaves-count.result ≤ length now.slots = omega (arith, room, counted, at) in
    let same =
    ap (λ n. binary_each op signed (take n (drop c.stands-x.result now.slots)) (take n (drop c.stands-y.result now.slots)) now.choices) counted
    ∙ ap (λ n. binary_each op signed (take (leaves m c.args.type_) (drop n now.slots)) (take (leaves m c.args.type_) (drop c.stands-y.result now.slots)) now.choices) x
    ∙ ap (λ n. binary_each op signed (take (leaves m c.args.type_) (drop (from m now c.args.a) now.slots)) (take (leaves m c.args.type_) (drop n now.slots)) now.choices) y in
    record {
      standing = c.pass.ensures fits.number;
      callers = refl;
      slots = c.put_two.ensures.words in_x in_y in_slots ∙ ap (λ n. with_words now.slots n (binary_each op signed (take c.leaves-count.result (drop c.stands-x.result now.slots)) (take c.leaves-count.result (drop c.stands-y.result now.slots)) now.choices).0) at ∙ ap (λ (g : List ℕ × List ℕ). with_words now.slots (to m now c.args.result_id) g.0) same;
      variables = refl;
      buffers = refl;
      left = c.put_two.ensures.left in_x in_y in_slots ∙ ap (λ (g : List ℕ × List ℕ). g.1) same;
    }
