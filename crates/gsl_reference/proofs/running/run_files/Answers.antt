use Rattle.std.proofs.Common.{Err, ◌∙◌, ap}
use Rattle.gsl_reference.proofs.Runs.{read_name, same_stop, sources_read, sources_stopped}
use Rattle.gsl_reference.proofs.running.run_files.Goals as goal

pub returns-in-Ok-clause-told : goal.returns-in-Ok-clause-told
returns-in-Ok-clause-told g c = λ read files told.
    sources_read read (record { stage = c.args.stage; inputs = c.args.inputs.now; sources = c.args.names.now }) files c.in-Ok.sources
    (g.H.Host.faults c.args.host.now) (g.H.Host.faults c.sources_of.new.host) (g.H.Host.faults c.run_sources.new.host) c.run_sources.result
    (c.in-Ok.ensures.told files told) c.in-Ok.ensures.faults (c.run_sources.ensures.told read files (c.in-Ok.ensures.files ∙ told))

pub returns-in-Err-clause-told : goal.returns-in-Err-clause-told
returns-in-Err-clause-told g c = λ read files told.
    sources_stopped read (record { stage = c.args.stage; inputs = c.args.inputs.now; sources = c.args.names.now }) files c.in-Err.stop
    (g.H.Host.faults c.args.host.now) (g.H.Host.faults c.sources_of.new.host) (c.in-Err.ensures.told files told) (λ e. c.in-Err.ensures.reached files told (ap Err e))

pub returns-in-Err-clause-failed : goal.returns-in-Err-clause-failed
returns-in-Err-clause-failed g c = λ e.
    let rose = c.in-Err.ensures.failed (ap Err (same_stop c.in-Err.stop e)) in
    read_name c.args.names.now rose.0 (g.H.Host.faults c.args.host.now) (g.H.Host.faults c.sources_of.new.host) rose.1 rose.2
