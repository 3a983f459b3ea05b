use Rattle.std.proofs.Common.{◌<◌, length, sym, subst}
use Rattle.gsl_words.specs.declared.module.Module.{Module}
use Rattle.gsl_machine.specs.Fits.{fits}
use Rattle.gsl_machine.specs.Machine.{after}
use Rattle.gsl_exec.proofs.Verdicts.{few_instrs}
use Rattle.gsl_exec.proofs.Runs.{came_misfit, came_to, tests_memory, tests_misfit, tests_shown}
use Rattle.gsl_exec.proofs.running.enacted.Goals as goal

pub enact-requires-clause-few : goal.enact-requires-clause-few
enact-requires-clause-few c = subst (λ (m : Module). length m.instrs < 4294967296) (sym c.module.ensures.is) (few_instrs c.args.valid.now c.module.ensures.words)

pub returns-in-Ok-Misfit : goal.returns-in-Ok-Misfit
returns-in-Ok-Misfit c = λ targets.
    tests_misfit targets c.args.valid.now c.args.steps c.args.input.now (fits c.args.valid.now c.args.input.now) c.in-Ok-Misfit.refusal c.misfit_text.result c.told.result
    (came_misfit c.args.valid.now c.module.result.now c.args.input.now c.args.steps c.in-Ok-Misfit.field-0 c.in-Ok-Misfit.refusal c.module.ensures.is c.in-Ok-Misfit.field-0-is c.in-Ok-Misfit.ensures)
    c.misfit_text.ensures c.told.ensures

pub returns-in-Ok-Came : goal.returns-in-Ok-Came
returns-in-Ok-Came c = λ targets.
    let both = came_to c.args.valid.now c.module.result.now c.args.input.now c.args.steps c.in-Ok-Came.field-0 c.in-Ok-Came.step c.module.ensures.is c.in-Ok-Came.field-0-is c.in-Ok-Came.ensures in
    tests_shown targets c.args.valid.now c.args.steps c.args.input.now (fits c.args.valid.now c.args.input.now) c.shown.result both.0
    (c.shown.ensures targets (after c.args.valid.now c.args.steps c.args.input.now) both.1)

pub returns-in-Err : goal.returns-in-Err
returns-in-Err c = λ targets.
    tests_memory c.valid_modules_are_never_stuck.ensures c.args.valid.now c.module.ensures.valid targets c.args.steps c.args.input.now
