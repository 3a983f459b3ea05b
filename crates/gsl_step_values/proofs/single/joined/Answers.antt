use Rattle.std.proofs.Common.{◌≡◌, refl, ap, ◌∙◌, [], ◌∷◌, ◌+◌, ◌≤◌, length, take, drop, arith}
use Rattle.gsl_leaves.specs.Leaves.{leaves}
use Rattle.gsl_region.specs.Showing.{with_words}
use Rattle.gsl_step_values.specs.Values.{from, joined_word, to}
use Rattle.gsl_step_values.proofs.single.joined.Goals as goal

pub returns : goal.returns
returns c type known fits =
    let m = c.args.operands.now in
    let now = c.args.machine.now in
    let room = fits.room in
    let places = fits.places in
    let below = fits.behind in
    let counted : c.words_of-count.result ≡ leaves m type = c.words_of-count.ensures.typed type known (omega (arith, below, room, places)) in
    let at : c.place-at.result ≡ to m now c.args.result_id = c.place-at.ensures (omega (arith, room, places)) in
    let x : c.stands-from.result ≡ from m now c.args.a = c.stands-from.ensures fits.low (omega (arith, below, room, places)) in
    let in_x : c.stands-from.result + c.words_of-count.result ≤ c.place-at.result = omega (arith, below, counted, at, x) in
    let in_slots : c.place-at.result + 1 ≤ length now.slots = omega (arith, room, at) in
    record {
      standing = c.pass.ensures fits.number;
      callers = refl;
      slots = c.put_joined.ensures in_x in_slots ∙ ap (λ n. with_words now.slots n (joined_word c.args.op (take c.words_of-count.result (drop c.stands-from.result now.slots)) ∷ [])) at
          ∙ ap (λ n. with_words now.slots (to m now c.args.result_id) (joined_word c.args.op (take n (drop c.stands-from.result now.slots)) ∷ [])) counted
          ∙ ap (λ n. with_words now.slots (to m now c.args.result_id) (joined_word c.args.op (take (leaves m type) (drop n now.slots)) ∷ [])) x;
      variables = refl;
      buffers = refl;
      left = refl;
    }
