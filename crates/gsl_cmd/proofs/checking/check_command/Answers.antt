use Rattle.std.proofs.Common.{◌∙◌}
use Rattle.gsl_cmd.proofs.CheckJobs.{IsIts, check_cause}
use Rattle.gsl_cmd.proofs.Finished.{never_usage, performed}
use Rattle.gsl_cmd.proofs.checking.check_command.Goals as goal

pub returns-clause-told : goal.returns-clause-told
returns-clause-told g c = λ files told.
    performed files (g.H.Host.files c.finish.new.host) (g.H.Host.faults c.args.host.now) (g.H.Host.faults c.check_file-end.new.host) (g.H.Host.faults c.finish.new.host)
    (g.H.Host.printed c.args.host.now) (g.H.Host.printed c.finish.new.host) (c.finish.ensures.files ∙ c.check_file-end.ensures.files ∙ told) c.check_file-end.ensures.faults c.finish.ensures.faults
    (IsIts c.args.file.now files (g.H.Host.faults c.args.host.now) (g.H.Host.faults c.check_file-end.new.host)) (g.H.Host.printed c.check_file-end.new.host) c.check_file-end.result c.finish.result
    c.check_file-end.ensures.streams (c.check_file-end.ensures.told files told) c.finish.ensures.finished

pub returns-clause-cause : goal.returns-clause-cause
returns-clause-cause g c =
    check_cause c.args.file.now (g.H.Host.faults c.args.host.now) (g.H.Host.faults c.check_file-end.new.host) (g.H.Host.faults c.finish.new.host) c.check_file-end.result _ _ _ _ c.finish.result
    c.check_file-end.ensures.faults c.finish.ensures.faults c.check_file-end.ensures.failed c.check_file-end.ensures.own c.finish.ensures.finished

pub returns-clause-planned : goal.returns-clause-planned
returns-clause-planned g c =
    never_usage (g.H.Host.faults c.check_file-end.new.host) (g.H.Host.faults c.finish.new.host) _ _ _ _ c.finish.result c.check_file-end.result c.check_file-end.ensures.own c.finish.ensures.finished
