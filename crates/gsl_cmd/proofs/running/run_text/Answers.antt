use Rattle.std.proofs.Common.{◌≡◌}
use Rattle.gsl_exec.specs.declared.stop.Stop.TheVariants as stop
use Rattle.gsl_cmd.proofs.ExecJobs.{has_own}
use Rattle.gsl_cmd.proofs.RunJobs.{by_refused, by_valid, made_no_host, made_own}
use Rattle.gsl_cmd.proofs.running.run_text.Goals as goal

pub returns-in-Ok-clause-told : goal.returns-in-Ok-clause-told
returns-in-Ok-clause-told g c = λ some files told targets.
    by_valid some files c.args.stage c.args.names.now c.args.sources.now c.args.text.now targets (g.H.Host.faults c.args.host.now) (g.H.Host.faults c.exec_valid.new.host)
    c.in-Ok.valid c.exec_valid.result c.in-Ok.ensures (c.exec_valid.ensures.told files told targets)

pub returns-in-Ok-clause-own : goal.returns-in-Ok-clause-own
returns-in-Ok-clause-own g c = has_own c.exec_valid.result c.exec_valid.ensures.line

pub returns-in-Err-clause-told : goal.returns-in-Err-clause-told
returns-in-Err-clause-told g c = λ some files told targets.
    by_refused some files c.args.stage c.args.names.now c.args.sources.now c.args.text.now targets (g.H.Host.faults c.args.host.now) (g.H.Host.faults c.args.host.now) c.in-Err.stop c.in-Err.ensures

pub returns-in-Err-clause-own : goal.returns-in-Err-clause-own
returns-in-Err-clause-own g c = made_own c.args.stage c.args.sources.now c.args.names.now c.in-Err.stop c.in-Err.ensures

pub returns-in-Err-clause-failed : goal.returns-in-Err-clause-failed
returns-in-Err-clause-failed g c = λ e. absurd (made_no_host c.args.stage c.args.sources.now c.args.names.now c.in-Err.stop c.in-Err.ensures (let same : c.in-Err.stop ≡ stop.Host = cc in same))
