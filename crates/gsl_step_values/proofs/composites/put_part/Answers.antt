use Rattle.std.proofs.Common.{◌≡◌, refl, ap, ◌∙◌, subst, ◌+◌, ◌≤◌, Some, length, take, drop, arith}
use Rattle.std.proofs.lemmas.List.{length-drop, length-take-le}
use Rattle.gsl_leaves.specs.Leaves.{leaves, offset}
use Rattle.gsl_leaves.specs.Table.{most, told}
use Rattle.gsl_region.specs.Showing.{with_words}
use Rattle.gsl_slots.proofs.Held.{front_of}
use Rattle.gsl_shown.proofs.Giving.{length_with}
use Rattle.gsl_step_values.specs.Values.{from, to, words}
use Rattle.gsl_step_values.proofs.Inside.{put_inside}
use Rattle.gsl_step_values.proofs.Two.{told_low}
use Rattle.gsl_step_values.proofs.composites.put_part.Goals as goal

pub returns : goal.returns
returns c inner known fits =
    let m = c.args.operands.now in
    let now = c.args.machine.now in
    let path = c.args.indexes.now in
    let type = c.args.type_ in
    let room = fits.room in
    let places = fits.places in
    let below = fits.behind.0 in
    let below_part = fits.behind.1 in
    let inside = fits.inside in
    let same = c.leaves-leaves.ensures ∙ c.frames.ensures in
    let counted : c.leaves-count.result ≡ leaves m c.args.type_ = c.leaves-count.ensures ∙ ap (λ n. told (leaves n c.args.type_)) same ∙ told_low (leaves m c.args.type_) (omega (arith, room, places)) in
    let at : c.place-at.result ≡ to m now c.args.result_id = c.place-at.ensures (omega (arith, room, places)) in
    let x : c.stands-from.result ≡ from m now c.args.composite = c.stands-from.ensures fits.low.0 (omega (arith, below, room, places)) in
    let y : c.stands-from_part.result ≡ from m now c.args.part = c.stands-from_part.ensures fits.low.1 (omega (arith, below_part, room, places)) in
    let few : c.words_of-inner.result ≡ leaves m inner = c.words_of-inner.ensures.typed inner known (omega (arith, below_part, room, places)) in
    let skipped : c.offset-skipped.result ≡ offset m (Some c.args.type_) path =
    subst (λ n. offset n (Some c.args.type_) path ≤ most → c.offset-skipped.result ≡ offset n (Some c.args.type_) path) same c.offset-skipped.ensures (omega (arith, inside, room, places)) in
    let start : c.saturating_add.result ≡ to m now c.args.result_id + offset m (Some c.args.type_) path = (let sum = c.saturating_add.ensures in omega (arith, sum, at, skipped, inside, room, places)) in
    let in_x : c.stands-from.result + c.leaves-count.result ≤ c.place-at.result = omega (arith, below, counted, at, x) in
    let in_slots : c.place-at.result + c.leaves-count.result ≤ length now.slots = omega (arith, room, counted, at) in
    let w = words m now c.args.composite (leaves m c.args.type_) in
    let long = length-drop (from m now c.args.composite) now.slots in
    let size : length (take (leaves m c.args.type_) (drop (from m now c.args.composite) now.slots)) ≡ leaves m c.args.type_ = length-take-le (leaves m c.args.type_) (drop (from m now c.args.composite) now.slots) (omega (arith, long, below, room)) in
    let long_part = length-drop (from m now c.args.part) now.slots in
    let size_part : length (take (leaves m inner) (drop (from m now c.args.part) now.slots)) ≡ leaves m inner = length-take-le (leaves m inner) (drop (from m now c.args.part) now.slots) (omega (arith, long_part, below_part, room)) in
    let first : c.put_same.new.slots ≡ with_words now.slots (to m now c.args.result_id) w =
    c.put_same.ensures in_x in_slots ∙ ap (λ n. with_words now.slots n (take c.leaves-count.result (drop c.stands-from.result now.slots))) at ∙ ap (λ n. with_words now.slots (to m now c.args.result_id) (take n (drop c.stands-from.result now.slots))) counted
    ∙ ap (λ n. with_words now.slots (to m now c.args.result_id) (take (leaves m c.args.type_) (drop n now.slots))) x in
    let all : length c.put_same.new.slots ≡ length now.slots = ap length first ∙ length_with now.slots w (to m now c.args.result_id) (omega (arith, room, size)) in
    let in_y : c.stands-from_part.result + c.words_of-inner.result ≤ c.saturating_add.result = omega (arith, below_part, few, y, start) in
    let in_all : c.saturating_add.result + c.words_of-inner.result ≤ length c.put_same.new.slots = omega (arith, room, few, start, inside, all) in
    let part : take (leaves m inner) (drop (from m now c.args.part) c.put_same.new.slots) ≡ words m now c.args.part (leaves m inner) =
    ap (λ l. take (leaves m inner) (drop (from m now c.args.part) l)) first ∙ front_of now.slots w (from m now c.args.part) (leaves m inner) (to m now c.args.result_id) below_part (omega (arith, room)) in
    let second : c.put_same-2.new.slots ≡ with_words c.put_same.new.slots (to m now c.args.result_id + offset m (Some c.args.type_) path) (words m now c.args.part (leaves m inner)) =
    c.put_same-2.ensures in_y in_all ∙ ap (λ n. with_words c.put_same.new.slots n (take c.words_of-inner.result (drop c.stands-from_part.result c.put_same.new.slots))) start
    ∙ ap (λ n. with_words c.put_same.new.slots (to m now c.args.result_id + offset m (Some c.args.type_) path) (take n (drop c.stands-from_part.result c.put_same.new.slots))) few
    ∙ ap (λ n. with_words c.put_same.new.slots (to m now c.args.result_id + offset m (Some c.args.type_) path) (take (leaves m inner) (drop n c.put_same.new.slots))) y
    ∙ ap (with_words c.put_same.new.slots (to m now c.args.result_id + offset m (Some c.args.type_) path)) part in
    record {
      standing = c.pass.ensures fits.number;
      callers = refl;
      slots = second ∙ ap (λ l. with_words l (to m now c.args.result_id + offset m (Some c.args.type_) path) (words m now c.args.part (leaves m inner))) first
          ∙ put_inside now.slots w (words m now c.args.part (leaves m inner)) (to m now c.args.result_id) (offset m (Some c.args.type_) path) (omega (arith, room, size)) (omega (arith, size, size_part, inside));
      variables = refl;
      buffers = refl;
      left = refl;
    }
