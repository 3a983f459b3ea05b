use Rattle.std.proofs.Common.{◌∙◌, refl}
use Rattle.gsl_perform_run.proofs.Programs.{comes}
use Rattle.gsl_perform_run.proofs.running.perform.Goals as goal

pub returns : goal.returns
returns c =
    c.in_ok-performed.ensures _ c.run-came.ensures ∙ comes c.args.program.now c.args.input.now c.in_ok-frame.frame c.in_ok-store.store c.args.units _ c.in_ok-frame.ensures c.in_ok-store.ensures refl
