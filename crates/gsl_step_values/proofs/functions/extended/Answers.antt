use Rattle.std.proofs.Common.{◌≡◌, refl, ap, ◌∙◌, subst, ℕ, ◌<◌, ◌≤◌, Bool, List, [], ◌∷◌, length, map, take, Some, arith}
use Rattle.std.specs.Prelude.{slice_get}
use Rattle.gsl_instr.specs.declared.instruction.Instruction.TheVariants as instruction
use Rattle.gsl_values.specs.declared.function.Builtin.{Builtin}
use Rattle.gsl_tree.specs.Operations.{builtin_each}
use Rattle.gsl_region.specs.Showing.{with_words}
use Rattle.gsl_lanes.specs.Operands.{words_at}
use Rattle.gsl_lanes.specs.declared.functions.Operand.{Operand}
use Rattle.gsl_leaves.specs.Leaves.{leaves}
use Rattle.gsl_leaves.specs.Table.{most, told}
use Rattle.gsl_sound_code.proofs.Looks.{kept}
use Rattle.gsl_step.specs.declared.machine.Machine.{Machine}
use Rattle.gsl_step.proofs.Giving.{next_step}
use Rattle.gsl_step_values.specs.Values.{Part, PutsPlain, from, operand}
use Rattle.gsl_step_values.proofs.Built.{extends}
use Rattle.gsl_step_values.proofs.Serving.{count_is, first_three, operand_is, place_is, room_there, serve_nth, serve_there, slots_same}
use Rattle.gsl_step_values.proofs.functions.extended.Goals as goal

pub returns : goal.returns
returns c input state p more valid good typed shown comes reads =
    let m = c.args.operands.now in
    let now = c.args.machine.now in
    let values = c.args.values.now in
    let type = c.args.type_ in
    let id = c.args.result_id in
    let which = c.function_of-function.result.0 in
    let signed = c.function_of-function.result.1 in
    let next : Machine = record now { standing = c.pass.new.standing; slots = c.put_given.new.slots } in
    next_step m input state next p more (instruction.ExtInst c.args.type_ c.args.result_id c.args.set c.args.number c.args.values.now) comes reads
    (extends m (kept m valid) input now next state good typed shown p more comes c.args.type_ c.args.result_id c.args.set c.args.number c.args.values.now reads (λ few. subst
    (λ (g : Builtin × Bool). PutsPlain m g.0 g.1 c.args.type_ c.args.result_id (map (λ other. (other, leaves m c.args.type_)) c.args.values.now) now next) c.function_of-function.ensures (λ fits.
    let parts : List Part = map (λ other. (other, leaves m c.args.type_)) c.args.values.now in
    let counted = count_is m now id type parts fits c.leaves-count.result (c.leaves-count.ensures ∙ ap (λ n. told (leaves n c.args.type_)) (c.leaves.ensures ∙ c.frames.ensures)) in
    let place = place_is m now id type parts fits c.place-at.result c.place-at.ensures in
    let each : (o : Operand) (k : ℕ) → ((other : ℕ) → slice_get values k ≡ Some other → other < m.bound → from m now other ≤ most → o ≡ record { place = from m now other; count = c.leaves-count.result }) → (other : ℕ) → slice_get values k ≡ Some other
    → o ≡ operand m now (other, leaves m c.args.type_) = λ o k is other there. operand_is m now id type parts fits (other, leaves m c.args.type_) o c.leaves-count.result (serve_nth m now id (leaves m type) (leaves m type) values k other fits.serve there) counted (is other there) in
    let all : c.first_of.result.now ≡ map (operand m now) parts =
    c.first_of.ensures few ∙ first_three m now (leaves m type) values c.nth_part-first.result c.nth_part-second.result c.nth_part-third.result few (each c.nth_part-first.result 0 c.nth_part-first.ensures) (each c.nth_part-second.result 1 c.nth_part-second.ensures)
    (each c.nth_part-third.result 2 c.nth_part-third.ensures) in
    let serve = serve_there m now id type parts fits c.place-at.result c.leaves-count.result counted place c.first_of.result.now all in
    let room = room_there m now id type parts fits c.place-at.result c.leaves-count.result counted place c.first_of.result.now all in
    let none = c.new-none.ensures ∙ c.new.ensures in
    record {
      standing = c.pass.ensures fits.number;
      callers = refl;
      slots = slots_same m now id type parts fits c.place-at.result c.leaves-count.result counted place c.first_of.result.now all [] next.slots which signed (c.put_given.ensures.words serve room
          ∙ ap (λ l. with_words now.slots c.place-at.result (builtin_each which signed (map (words_at now.slots) c.first_of.result.now) c.leaves-count.result 0 l).0) none);
      variables = refl;
      buffers = refl;
      left = refl;
    })))
