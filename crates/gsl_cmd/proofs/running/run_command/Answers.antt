use Rattle.std.proofs.Common.{◌∙◌}
use Rattle.gsl_plan.specs.Plan.{Plan}
use Rattle.gsl_cmd.specs.Job.{IsJob}
use Rattle.gsl_cmd.proofs.Finished.{never_usage, performed}
use Rattle.gsl_cmd.proofs.RunJobs.{run_cause}
use Rattle.gsl_cmd.proofs.running.run_command.Goals as goal

pub returns-clause-told : goal.returns-clause-told
returns-clause-told g c = λ files told.
    performed files (g.H.Host.files c.finish.new.host) (g.H.Host.faults c.args.host.now) (g.H.Host.faults c.run_files-end.new.host) (g.H.Host.faults c.finish.new.host)
    (g.H.Host.printed c.args.host.now) (g.H.Host.printed c.finish.new.host) (c.finish.ensures.files ∙ c.run_files-end.ensures.files ∙ told) c.run_files-end.ensures.faults c.finish.ensures.faults
    (λ job. IsJob (Plan.Run c.args.stage c.args.inputs.now c.args.names.now) files job) (g.H.Host.printed c.run_files-end.new.host) c.run_files-end.result c.finish.result c.run_files-end.ensures.streams
    (c.run_files-end.ensures.told c.one_owed_of_valid.ensures.some files told) c.finish.ensures.finished

pub returns-clause-cause : goal.returns-clause-cause
returns-clause-cause g c =
    run_cause c.args.stage c.args.inputs.now c.args.names.now (g.H.Host.files c.args.host.now) (g.H.Host.faults c.args.host.now) (g.H.Host.faults c.run_files-end.new.host)
    (g.H.Host.faults c.finish.new.host) c.run_files-end.result c.run_files-end.ensures.faults c.finish.ensures.faults
    (c.run_files-end.ensures.told c.one_owed_of_valid.ensures.some) c.run_files-end.ensures.failed _ _ _ _ c.finish.result c.run_files-end.ensures.own c.finish.ensures.finished

pub returns-clause-planned : goal.returns-clause-planned
returns-clause-planned g c =
    never_usage (g.H.Host.faults c.run_files-end.new.host) (g.H.Host.faults c.finish.new.host) _ _ _ _ c.finish.result c.run_files-end.result c.run_files-end.ensures.own c.finish.ensures.finished
