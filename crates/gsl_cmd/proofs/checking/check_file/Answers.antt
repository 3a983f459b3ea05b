use Rattle.std.proofs.Common.{ℕ, List, ap, subst, Err}
use Rattle.gsl_cmd.specs.Command.{ChecksBytes}
use Rattle.gsl_cmd.proofs.CheckJobs.{checks_no_host, checks_own, checks_read, checks_whole}
use Rattle.gsl_cmd.proofs.checking.check_file.Goals as goal

pub returns-in-Ok-clause-told : goal.returns-in-Ok-clause-told
returns-in-Ok-clause-told g c = λ files told.
    let read = rw told at c.in-Ok.ensures.told in
    checks_whole c.args.file.now files (g.H.Host.faults c.args.host.now) (g.H.Host.faults c.read_module.new.host) c.in-Ok.bytes c.check_bytes.result read.0 read.1
    (subst (λ (l : List ℕ). ChecksBytes l c.check_bytes.result) c.as_slice.ensures c.check_bytes.ensures)

pub returns-in-Ok-clause-own : goal.returns-in-Ok-clause-own
returns-in-Ok-clause-own g c = checks_own _ c.check_bytes.result c.check_bytes.ensures

pub returns-in-Ok-clause-failed : goal.returns-in-Ok-clause-failed
returns-in-Ok-clause-failed g c = λ e. absurd (checks_no_host _ c.check_bytes.result c.check_bytes.ensures e)

pub returns-in-Err-clause-told : goal.returns-in-Err-clause-told
returns-in-Err-clause-told g c = λ files told.
    checks_read c.args.file.now files (g.H.Host.faults c.args.host.now) (g.H.Host.faults c.read_module.new.host) c.in-Err.stop
    (rw told at c.in-Err.ensures.told) (λ e. c.in-Err.ensures.failed (ap Err e))
