use Rattle.std.proofs.Common.{◌∙◌}
use Rattle.gsl_cmd.proofs.Jobs.{rest_named, rest_read}
use Rattle.gsl_cmd.proofs.Streams.{later_rise}
use Rattle.gsl_cmd.proofs.command.+read_sources.Goals as goal

pub returns-in_ok-all-in-len1-up-clause-failed : goal.returns-in_ok-all-in-len1-up-clause-failed
returns-in_ok-all-in-len1-up-clause-failed g t c = λ e.
    let later = c.read_sources.ensures.failed e in (
      later.0,
      rest_named c.args.files.now later.0 later.1,
      later_rise (g.H.Host.faults c.args.host.now) (g.H.Host.faults c.read_source.new.host) (g.H.Host.faults c.read_sources.new.host) later.0 c.in_ok-source-in-len1-up.ensures.faults later.2,
    )

pub returns-in_ok-all-in-len1-up-clause-reached : goal.returns-in_ok-all-in-len1-up-clause-reached
returns-in_ok-all-in-len1-up-clause-reached g t c = λ known told e.
    let read = rw told at c.in_ok-source-in-len1-up.ensures.told in
    let later = c.read_sources.ensures.reached known (c.in_ok-source-in-len1-up.ensures.files ∙ told) e in (
      later.0,
      rest_read known c.args.files.now c.file-item.result c.in_ok-source-in-len1-up.source later.0 c.in-len1-up.len_at_least c.file-item.is read.0 read.1 later.1,
      later_rise (g.H.Host.faults c.args.host.now) (g.H.Host.faults c.read_source.new.host) (g.H.Host.faults c.read_sources.new.host) later.0 c.in_ok-source-in-len1-up.ensures.faults later.2,
    )
