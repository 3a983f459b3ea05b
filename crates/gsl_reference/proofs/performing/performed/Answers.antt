use Rattle.std.proofs.Common.{Err, subst}
use Rattle.gsl_inputs.specs.Demands.{Met}
use Rattle.gsl_reference.specs.Owed.{run_if}
use Rattle.gsl_reference.specs.Steps.{Comes}
use Rattle.gsl_reference.proofs.performing.performed.Goals as goal

pub returns-in-Ok : goal.returns-in-Ok
returns-in-Ok c = λ targets.
    subst (λ (met : Met). Comes ⊥ (run_if targets c.args.program.now c.args.units c.args.input.now met) c.ran.result) c.in-Ok.ensures (c.ran.ensures targets)

pub returns-in-Err : goal.returns-in-Err
returns-in-Err c = λ targets.
    subst (λ (met : Met). Comes ⊥ (run_if targets c.args.program.now c.args.units c.args.input.now met) (Err c.misfit.result)) c.in-Err.ensures (c.misfit.ensures targets)
