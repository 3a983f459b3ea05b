use Rattle.std.proofs.Common.{◌∙◌}
use Rattle.gsl_cmd.specs.Job.{IsExecJob}
use Rattle.gsl_cmd.proofs.ExecJobs.{exec_cause, exec_ends, has_own}
use Rattle.gsl_cmd.proofs.Finished.{never_usage, performed}
use Rattle.gsl_cmd.proofs.running.exec_command.Goals as goal

pub returns-clause-told : goal.returns-clause-told
returns-clause-told g c = λ files told.
    performed files (g.H.Host.files c.finish.new.host) (g.H.Host.faults c.args.host.now) (g.H.Host.faults c.exec-end.new.host) (g.H.Host.faults c.finish.new.host)
    (g.H.Host.printed c.args.host.now) (g.H.Host.printed c.finish.new.host) (c.finish.ensures.files ∙ c.exec-end.ensures.files ∙ told) c.exec-end.ensures.faults c.finish.ensures.faults
    (IsExecJob c.args.file.now c.args.inputs.now files) (g.H.Host.printed c.exec-end.new.host) c.exec-end.result c.finish.result c.exec-end.ensures.streams
    (exec_ends c.args.file.now c.args.inputs.now files (g.H.Host.faults c.args.host.now) (g.H.Host.faults c.exec-end.new.host) c.exec-end.result (c.exec-end.ensures.told files told))
    c.finish.ensures.finished

pub returns-clause-cause : goal.returns-clause-cause
returns-clause-cause g c =
    exec_cause c.args.file.now c.args.inputs.now (g.H.Host.files c.args.host.now) (g.H.Host.faults c.args.host.now) (g.H.Host.faults c.exec-end.new.host) (g.H.Host.faults c.finish.new.host) c.exec-end.result
    c.exec-end.ensures.faults c.finish.ensures.faults c.exec-end.ensures.told c.exec-end.ensures.failed _ _ _ _ c.finish.result (has_own c.exec-end.result c.exec-end.ensures.line) c.finish.ensures.finished

pub returns-clause-planned : goal.returns-clause-planned
returns-clause-planned g c =
    never_usage (g.H.Host.faults c.exec-end.new.host) (g.H.Host.faults c.finish.new.host) _ _ _ _ c.finish.result c.exec-end.result (has_own c.exec-end.result c.exec-end.ensures.line) c.finish.ensures.finished
