use Rattle.std.proofs.Common.{◌≡◌, refl, ap, ◌∙◌, ◌+◌, ◌++◌, ◌≤◌, length, map, take, drop, arith}
use Rattle.std.specs.Prelude.{slice_index}
use Rattle.gsl_leaves.specs.Leaves.{leaves}
use Rattle.gsl_region.specs.Showing.{with_words}
use Rattle.gsl_step_values.specs.Values.{from, to, words}
use Rattle.gsl_step_values.proofs.shuffling.put_shuffled.Goals as goal

pub returns : goal.returns
returns c first second known_a known_b fits =
    let m = c.args.operands.now in
    let now = c.args.machine.now in
    let positions = c.args.positions.now in
    let room = fits.room in
    let places = fits.places in
    let below_a = fits.behind.0 in
    let below_b = fits.behind.1 in
    let at : c.place-at.result ≡ to m now c.args.result_id = c.place-at.ensures (omega (arith, room, places)) in
    let x : c.stands-x.result ≡ from m now c.args.a = c.stands-x.ensures fits.low.0 (omega (arith, below_a, room, places)) in
    let y : c.stands-y.result ≡ from m now c.args.b = c.stands-y.ensures fits.low.1 (omega (arith, below_b, room, places)) in
    let n : c.words_of-x_count.result ≡ leaves m first = c.words_of-x_count.ensures.typed first known_a (omega (arith, below_a, room, places)) in
    let k : c.words_of-y_count.result ≡ leaves m second = c.words_of-y_count.ensures.typed second known_b (omega (arith, below_b, room, places)) in
    let in_a : c.stands-x.result + c.words_of-x_count.result ≤ c.place-at.result = omega (arith, below_a, x, n, at) in
    let in_b : c.stands-y.result + c.words_of-y_count.result ≤ c.place-at.result = omega (arith, below_b, y, k, at) in
    let in_slots : c.place-at.result + length positions ≤ length now.slots = omega (arith, room, at) in
    let rows_a : take c.words_of-x_count.result (drop c.stands-x.result now.slots) ≡ words m now c.args.a (leaves m first) = ap (λ i. take i (drop c.stands-x.result now.slots)) n ∙ ap (λ i. take (leaves m first) (drop i now.slots)) x in
    let rows_b : take c.words_of-y_count.result (drop c.stands-y.result now.slots) ≡ words m now c.args.b (leaves m second) = ap (λ i. take i (drop c.stands-y.result now.slots)) k ∙ ap (λ i. take (leaves m second) (drop i now.slots)) y in
    record {
      standing = c.pass.ensures fits.number;
      callers = refl;
      slots = c.put_picked.ensures in_a in_b in_slots places
          ∙ ap (λ i. with_words now.slots i (map (slice_index (take c.words_of-x_count.result (drop c.stands-x.result now.slots) ++ take c.words_of-y_count.result (drop c.stands-y.result now.slots))) positions)) at
          ∙ ap (λ l. with_words now.slots (to m now c.args.result_id) (map (slice_index (l ++ take c.words_of-y_count.result (drop c.stands-y.result now.slots))) positions)) rows_a
          ∙ ap (λ l. with_words now.slots (to m now c.args.result_id) (map (slice_index (words m now c.args.a (leaves m first) ++ l)) positions)) rows_b;
      variables = refl;
      buffers = refl;
      left = refl;
    }
