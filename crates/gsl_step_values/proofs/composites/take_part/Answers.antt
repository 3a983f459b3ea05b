use Rattle.std.proofs.Common.{◌≡◌, refl, sym, ap, ◌∙◌, subst, ◌+◌, ◌≤◌, Some, length, take, drop, arith}
use Rattle.gsl_valid.specs.Kinds.{type_of}
use Rattle.gsl_valid.specs.Types.{defined_as}
use Rattle.gsl_leaves.specs.Leaves.{leaves, offset}
use Rattle.gsl_leaves.specs.Table.{most, told}
use Rattle.gsl_region.specs.Showing.{with_words}
use Rattle.gsl_step_values.specs.Values.{from, to}
use Rattle.gsl_step_values.proofs.Two.{told_low}
use Rattle.gsl_step_values.proofs.composites.take_part.Goals as goal

pub returns : goal.returns
returns c whole known fits =
    let m = c.args.operands.now in
    let now = c.args.machine.now in
    let path = c.args.indexes.now in
    let room = fits.room in
    let places = fits.places in
    let below = fits.behind in
    let same = c.leaves-leaves.ensures ∙ c.frames.ensures in
    let counted : c.leaves-count.result ≡ leaves m c.args.type_ = c.leaves-count.ensures ∙ ap (λ n. told (leaves n c.args.type_)) same ∙ told_low (leaves m c.args.type_) (omega (arith, room, places)) in
    let at : c.place-at.result ≡ to m now c.args.result_id = c.place-at.ensures (omega (arith, room, places)) in
    let x : c.stands-from.result ≡ from m now c.args.composite = c.stands-from.ensures fits.low (omega (arith, below, room, places)) in
    let typed : c.type_of.result ≡ Some whole = c.type_of.ensures ∙ ap (λ n. type_of (defined_as n c.args.composite)) (c.definitions.ensures ∙ same) ∙ known in
    let skipped : c.offset-skipped.result ≡ offset m (Some whole) path =
    subst (λ o. offset m o path ≤ most → c.offset-skipped.result ≡ offset m o path) typed (subst (λ n. offset n c.type_of.result path ≤ most → c.offset-skipped.result ≡ offset n c.type_of.result path) same c.offset-skipped.ensures)
    (omega (arith, below, room, places)) in
    let start : c.saturating_add.result ≡ from m now c.args.composite + offset m (Some whole) path = (let sum = c.saturating_add.ensures in omega (arith, sum, x, skipped, below, room, places)) in
    let in_x : c.saturating_add.result + c.leaves-count.result ≤ c.place-at.result = omega (arith, below, counted, at, start) in
    let in_slots : c.place-at.result + c.leaves-count.result ≤ length now.slots = omega (arith, room, counted, at) in
    record {
      standing = c.pass.ensures fits.number;
      callers = refl;
      slots = c.put_same.ensures in_x in_slots ∙ ap (λ n. with_words now.slots n (take c.leaves-count.result (drop c.saturating_add.result now.slots))) at
          ∙ ap (λ n. with_words now.slots (to m now c.args.result_id) (take n (drop c.saturating_add.result now.slots))) counted
          ∙ ap (λ n. with_words now.slots (to m now c.args.result_id) (take (leaves m c.args.type_) (drop n now.slots))) start;
      variables = refl;
      buffers = refl;
      left = refl;
    }
