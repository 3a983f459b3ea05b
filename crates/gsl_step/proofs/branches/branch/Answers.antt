use Rattle.std.proofs.Common.{◌≡◌, sym, ap, ◌∙◌, subst, ◌-◌}
use Rattle.gsl_instr.specs.declared.instruction.Instruction.TheVariants as instruction
use Rattle.gsl_machine.specs.Steps.{branching}
use Rattle.gsl_ids.specs.Table.{number_of}
use Rattle.gsl_sound_code.proofs.Looks.{kept}
use Rattle.gsl_shown_calls.proofs.Entered.{once}
use Rattle.gsl_step.specs.Machine.{Leads}
use Rattle.gsl_step.proofs.Leading.{branches}
use Rattle.gsl_step.proofs.Giving.{next_step}
use Rattle.gsl_step.proofs.branches.branch.Goals as goal

pub returns-clause-does : goal.returns-clause-does
returns-clause-does c input state p more valid good typed shown comes reads =
    let m = c.args.operands.now in
    let now = c.args.machine.now in
    let number : c.saturating_sub-machine.result ≡ number_of m c.args.target - 1 =
    c.saturating_sub-machine.ensures ∙ ap (λ n. n - 1) (c.number-number.ensures ∙ ap (λ n. number_of n c.args.target) (c.definitions.ensures ∙ c.leaves.ensures ∙ c.frames.ensures)) in
    next_step m input state (record now { standing = record now.standing { at = c.saturating_sub-machine.result } }) p more (instruction.Branch c.args.target) comes reads
    (subst (λ n. Leads m (record now { standing = record now.standing { at = n } }) (branching (record state { rest = more }) c.args.target)) (sym number) (branches m (kept m valid) (once m valid) input now state good shown more c.args.target))

pub returns-clause-at : goal.returns-clause-at
returns-clause-at c =
    let m = c.args.operands.now in
    let now = c.args.machine.now in
    ap (λ n. record now { standing = record now.standing { at = n } })
    (c.saturating_sub-machine.ensures ∙ ap (λ n. n - 1) (c.number-number.ensures ∙ ap (λ n. number_of n c.args.target) (c.definitions.ensures ∙ c.leaves.ensures ∙ c.frames.ensures)))
