use Rattle.std.proofs.Common.{sym, ap, ◌∙◌, subst, ◌<◌, length, slice_index}
use Rattle.gsl_instr.specs.declared.instruction.Instruction.TheVariants as instruction
use Rattle.gsl_machine.specs.Steps.{act}
use Rattle.gsl_sound_code.proofs.Looks.{kept}
use Rattle.gsl_shown_calls.proofs.Entered.{once}
use Rattle.gsl_step.specs.Machine.{Leads}
use Rattle.gsl_step.proofs.Leading.{At, switches}
use Rattle.gsl_step.proofs.Giving.{next_step}
use Rattle.gsl_step.proofs.branches.switch.Goals as goal

pub returns : goal.returns
returns c input state p more valid good typed shown comes reads =
    let m = c.args.operands.now in
    let now = c.args.machine.now in
    let slots = now.slots in
    next_step m input state c.branch-operands.new.machine p more (instruction.Switch c.args.selector c.args.default c.args.targets.now) comes reads
    (subst (λ next. Leads m next (act m input p.at (record state { rest = more }) (instruction.Switch c.args.selector c.args.default c.args.targets.now))) (sym (c.branch-operands.ensures.at ∙ ap (At m (kept m valid) (once m valid) input now state good shown more) c.label_for.ensures))
    (switches m (kept m valid) (once m valid) input now state good shown more typed p comes c.args.selector c.args.default c.args.targets.now c.word_at-word.result reads (λ low place within.
    let at = c.stands-at.ensures low place in
    c.word_at-word.ensures (subst (λ n. n < length slots) (sym at) within) ∙ ap (slice_index slots) at)))
