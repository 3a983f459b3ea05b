use Rattle.std.proofs.Common.{◌≡◌, refl, ap, ◌∙◌, ℕ, List, [], ◌∷◌, map}
use Rattle.std.specs.Prelude.{◌==◌}
use Rattle.gsl_instr.specs.declared.instruction.Instruction.TheVariants as instruction
use Rattle.gsl_instr.specs.declared.op.TheConstants as op_code
use Rattle.gsl_values.specs.declared.function.Builtin.TheVariants as f
use Rattle.gsl_tree.specs.Operations.{builtin_each}
use Rattle.gsl_region.specs.Showing.{with_words}
use Rattle.gsl_lanes.specs.Operands.{words_at}
use Rattle.gsl_lanes.specs.declared.functions.Operand.{Operand}
use Rattle.gsl_leaves.specs.Leaves.{leaves}
use Rattle.gsl_leaves.specs.Table.{told}
use Rattle.gsl_sound_code.proofs.Looks.{kept}
use Rattle.gsl_step.specs.declared.machine.Machine.{Machine}
use Rattle.gsl_step.proofs.Giving.{next_step}
use Rattle.gsl_step_values.specs.Values.{Part, operand}
use Rattle.gsl_step_values.proofs.Built.{extracts}
use Rattle.gsl_step_values.proofs.Serving.{count_is, given_same, operand_is, place_is, room_there, serve_there, slots_same}
use Rattle.gsl_step_values.proofs.functions.bit_field_extract.Goals as goal

pub returns : goal.returns
returns c input state p more valid good typed shown comes reads =
    let m = c.args.operands.now in
    let now = c.args.machine.now in
    let parts : List Part = (c.args.base, leaves m c.args.type_) ∷ (c.args.offset, 1) ∷ (c.args.bits, 1) ∷ [] in
    let os : List Operand = c.part-first.result ∷ c.part-second.result ∷ c.part-third.result ∷ [] in
    let next : Machine = record now { standing = c.pass.new.standing; slots = c.put_given.new.slots; choices = c.put_given.new.choices } in
    next_step m input state next p more (instruction.BitFieldExtract c.args.op c.args.type_ c.args.result_id c.args.base c.args.offset c.args.bits) comes reads
    (extracts m (kept m valid) input now next state good typed shown p more comes c.args.op c.args.type_ c.args.result_id c.args.base c.args.offset c.args.bits reads (λ fits.
    let counted = count_is m now c.args.result_id c.args.type_ parts fits c.leaves-count.result (c.leaves-count.ensures ∙ ap (λ n. told (leaves n c.args.type_)) (c.leaves.ensures ∙ c.frames.ensures)) in
    let place = place_is m now c.args.result_id c.args.type_ parts fits c.place-at.result c.place-at.ensures in
    let first = operand_is m now c.args.result_id c.args.type_ parts fits (c.args.base, leaves m c.args.type_) c.part-first.result c.leaves-count.result fits.serve.0 counted c.part-first.ensures in
    let second = operand_is m now c.args.result_id c.args.type_ parts fits (c.args.offset, 1) c.part-second.result 1 fits.serve.1.0 refl c.part-second.ensures in
    let third = operand_is m now c.args.result_id c.args.type_ parts fits (c.args.bits, 1) c.part-third.result 1 fits.serve.1.1.0 refl c.part-third.ensures in
    let all : os ≡ map (operand m now) parts = ap (λ x. x ∷ c.part-second.result ∷ c.part-third.result ∷ []) first ∙ ap (λ x. (operand m now (c.args.base, leaves m c.args.type_)) ∷ x ∷ c.part-third.result ∷ []) second ∙ ap (λ x. (operand m now (c.args.base, leaves m c.args.type_)) ∷ (operand m now (c.args.offset, 1)) ∷ x ∷ []) third in
    let serve = serve_there m now c.args.result_id c.args.type_ parts fits c.place-at.result c.leaves-count.result counted place os all in
    let room = room_there m now c.args.result_id c.args.type_ parts fits c.place-at.result c.leaves-count.result counted place os all in
    record {
      standing = c.pass.ensures fits.number;
      callers = refl;
      slots = slots_same m now c.args.result_id c.args.type_ parts fits c.place-at.result c.leaves-count.result counted place os all now.choices next.slots f.BitfieldExtract (c.args.op == op_code.BIT_FIELD_S_EXTRACT) (c.put_given.ensures.words serve room);
      variables = refl;
      buffers = refl;
      left = c.put_given.ensures.left serve room ∙ ap (λ (g : List ℕ × List ℕ). g.1) (given_same m now c.args.result_id c.args.type_ parts fits c.place-at.result c.leaves-count.result counted place os all f.BitfieldExtract (c.args.op == op_code.BIT_FIELD_S_EXTRACT) now.choices);
    }))
