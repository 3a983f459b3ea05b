use Rattle.std.proofs.Common.{◌≡◌, refl, ap, ◌∙◌, subst, true, false, None, Some}
use Rattle.gsl_instr.specs.declared.instruction.Instruction.TheVariants as instruction
use Rattle.gsl_valid.specs.CallRules.{target}
use Rattle.gsl_sound_code.proofs.Looks.{kept}
use Rattle.gsl_step_indexes.specs.Indexes.{PutsPointer, pointee_if}
use Rattle.gsl_step_indexes.proofs.Chains.{chains}
use Rattle.gsl_step_indexes.proofs.Telling.{next_tells}
use Rattle.gsl_step_indexes.proofs.chaining.chain.Goals as goal

pub returns-in-None : goal.returns-in-None
returns-in-None c plain input state p more valid good typed shown comes reads =
    let m = c.args.operands.now in
    let now = c.args.machine.now in
    let same = c.definitions-definitions.ensures ∙ c.leaves.ensures ∙ c.frames.ensures in
    next_tells m input state now false p more (instruction.AccessChain c.args.type_ c.args.result_id c.args.base c.args.indexes.now) comes reads
    (chains m (kept m valid) input now state good typed shown p more comes now false c.args.type_ c.args.result_id c.args.base c.place_of-from.result c.target_of-whole.result c.args.indexes.now None reads plain c.place_of-from.ensures
    (c.target_of-whole.ensures ∙ ap (λ n. pointee_if (target n c.args.base)) same) c.in-None.ensures (record { there = λ at is. absurd (cc); nowhere = λ none. (refl, refl) }))

pub returns-in-Some : goal.returns-in-Some
returns-in-Some c plain input state p more valid good typed shown comes reads =
    let m = c.args.operands.now in
    let now = c.args.machine.now in
    let same = c.definitions-definitions.ensures ∙ c.leaves.ensures ∙ c.frames.ensures in
    next_tells m input state c.put_led.new.machine true p more (instruction.AccessChain c.args.type_ c.args.result_id c.args.base c.args.indexes.now) comes reads
    (chains m (kept m valid) input now state good typed shown p more comes c.put_led.new.machine true c.args.type_ c.args.result_id c.args.base c.place_of-from.result c.target_of-whole.result c.args.indexes.now (Some c.in-Some.place) reads plain c.place_of-from.ensures
    (c.target_of-whole.ensures ∙ ap (λ n. pointee_if (target n c.args.base)) same) c.in-Some.ensures (record {
      there = λ at is. let e : c.in-Some.place ≡ at = cc in (refl, subst (λ n. PutsPointer c.args.operands.now c.args.result_id n c.args.machine.now c.put_led.new.machine) e c.put_led.ensures);
      nowhere = λ none. absurd (cc);
    }))
