use Rattle.std.proofs.Common.{◌≡◌, refl, ap, ◌∙◌, take, drop, arith}
use Rattle.gsl_region.specs.Showing.{with_words}
use Rattle.gsl_leaves.specs.Leaves.{leaves}
use Rattle.gsl_operands.specs.Operands.{stands}
use Rattle.gsl_step_memory.proofs.storing.put_stored.Goals as goal

pub returns : goal.returns
returns c type known fits =
    let m = c.args.operands.now in
    let now = c.args.machine.now in
    let room = fits.room in
    let within = fits.within in
    let places = fits.places in
    let counted : c.words_of-count.result ≡ leaves m type = c.words_of-count.ensures.typed type known (omega (arith, within, places)) in
    let x : c.stands-from.result ≡ stands m now.standing.slots c.args.value = c.stands-from.ensures fits.low (omega (arith, within, places)) in
    record {
      standing = c.pass.ensures fits.number;
      callers = refl;
      slots = refl;
      variables = c.copy_in.ensures (omega (arith, within, counted, x)) (omega (arith, room, counted)) ∙ ap (λ n. with_words now.words c.args.at (take n (drop c.stands-from.result now.slots))) counted
          ∙ ap (λ n. with_words now.words c.args.at (take (leaves m type) (drop n now.slots))) x;
      buffers = refl;
      left = refl;
    }
