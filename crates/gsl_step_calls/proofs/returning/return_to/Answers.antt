use Rattle.std.proofs.Common.{◌≡◌, refl, sym, ap, ◌∙◌, subst, ℕ, ◌+◌, ◌≤◌, ◌⊎◌, ◌∷◌, Some, length, take, drop, arith}
use Rattle.gsl_words.specs.declared.module.Instr.{Instr}
use Rattle.gsl_words.specs.declared.module.Module.{Module}
use Rattle.gsl_valid.specs.Ids.{result}
use Rattle.gsl_valid.specs.Instruction.{read}
use Rattle.gsl_region.specs.Showing.{with_words}
use Rattle.gsl_leaves.specs.Leaves.{leaves}
use Rattle.gsl_frames.specs.Frames.{place}
use Rattle.gsl_operands.specs.Operands.{stands}
use Rattle.gsl_step_calls.proofs.Apart.{apart_moved}
use Rattle.gsl_step_calls.proofs.returning.return_to.Goals as goal

pub returns : goal.returns
returns c id type known fits =
    let m = c.args.operands.now in
    let now = c.args.machine.now in
    let caller = c.args.caller in
    let there = fits.there in
    let room = fits.room in
    let places = fits.places in
    let same = c.definitions.ensures ∙ c.leaves.ensures ∙ c.frames.ensures in
    let count : c.words_of-count.result ≡ leaves m type = c.words_of-count.ensures.typed type known (omega (arith, there, places)) in
    let x : c.stands-from.result ≡ stands m now.standing.slots c.args.value = c.stands-from.ensures fits.low (omega (arith, there, places)) in
    let id_is : c.result_at-id.result ≡ id =
    subst (λ (n : Module). (i : Instr) (id : ℕ) → drop c.args.caller.at n.instrs ≡ i ∷ drop (c.args.caller.at + 1) n.instrs → result (read i) ≡ Some id → c.result_at-id.result ≡ id) same c.result_at-id.ensures fits.instr id fits.here fits.gives in
    let place_is : place m c.result_at-id.result ≡ place m id = ap (place m) id_is in
    let at : c.place-at.result ≡ c.args.caller.slots + place m id = c.place-at.ensures (omega (arith, place_is, room, places)) ∙ ap (λ n. c.args.caller.slots + n) place_is in
    record {
      standing = c.pass.ensures fits.number;
      callers = refl;
      slots = c.put_apart.ensures (apart_moved c.stands-from.result c.place-at.result c.words_of-count.result (stands m now.standing.slots c.args.value) (c.args.caller.slots + place m id) (leaves m type) x at count fits.apart) (omega (arith, x, count, there)) (omega (arith, at, count, room))
          ∙ ap (λ n. with_words now.slots n (take c.words_of-count.result (drop c.stands-from.result now.slots))) at ∙ ap (λ n. with_words now.slots (c.args.caller.slots + place m id) (take n (drop c.stands-from.result now.slots))) count
          ∙ ap (λ n. with_words now.slots (c.args.caller.slots + place m id) (take (leaves m type) (drop n now.slots))) x;
      variables = refl;
      buffers = refl;
      left = refl;
    }
