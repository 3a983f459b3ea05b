use Rattle.std.proofs.Common.{ℕ, List, Option, ◌∙◌, subst}
use Rattle.gsl_host.specs.declared.target.Stream.TheVariants as stream
use Rattle.gsl_reference.specs.Owed.{IsJob}
use Rattle.gsl_reference.specs.Steps.{Reported}
use Rattle.gsl_reference.proofs.Done.{done_ok, done_err, shown_over}
use Rattle.gsl_reference.proofs.Readings.{read_each}
use Rattle.gsl_reference.proofs.command.run.Goals as goal

pub returns-in-Ok-clause-told : goal.returns-in-Ok-clause-told
returns-in-Ok-clause-told g c = λ files told.
    let streams = c.in-Ok.ensures.streams in
    done_ok files (g.H.Host.files c.show_text.new.host) (g.H.Host.faults c.args.host.now) (g.H.Host.faults c.run_files.new.host) (g.H.Host.faults c.show_text.new.host)
    (g.H.Host.printed c.args.host.now) (g.H.Host.printed c.show_text.new.host) (c.show_text.ensures.files ∙ c.in-Ok.ensures.files ∙ told) c.in-Ok.ensures.faults c.show_text.ensures.faults
    (IsJob (record { stage = c.args.stage; inputs = c.args.inputs.now; sources = c.args.names.now }) files) c.in-Ok.text c.show_text.result (c.in-Ok.ensures.told (read_each c.one_reading.ensures.some) files told)
    (shown_over (g.H.Host.faults c.run_files.new.host) (g.H.Host.faults c.show_text.new.host) (g.H.Host.printed c.args.host.now) (g.H.Host.printed c.run_files.new.host) (g.H.Host.printed c.show_text.new.host) c.in-Ok.text c.as_slice.result.now c.show_text.result
    streams c.as_slice.ensures c.show_text.ensures.shown)

pub returns-in-Err-clause-told : goal.returns-in-Err-clause-told
returns-in-Err-clause-told g c = λ files told.
    let streams = c.in-Err.ensures.streams in
    done_err files (g.H.Host.files c.report.new.host) (g.H.Host.faults c.args.host.now) (g.H.Host.faults c.run_files.new.host) (g.H.Host.faults c.report.new.host)
    (g.H.Host.printed c.args.host.now) (g.H.Host.printed c.report.new.host) (c.report.ensures.files ∙ c.in-Err.ensures.files ∙ told) c.in-Err.ensures.faults c.report.ensures.faults
    (IsJob (record { stage = c.args.stage; inputs = c.args.inputs.now; sources = c.args.names.now }) files) c.in-Err.stop c.report.result (c.in-Err.ensures.told (read_each c.one_reading.ensures.some) files told)
    (c.report.ensures.out ∙ streams stream.Out)
    (subst (λ (shown : Option (List ℕ)). Reported c.in-Err.stop (g.H.Host.faults c.run_files.new.host) (g.H.Host.faults c.report.new.host) shown (g.H.Host.printed c.report.new.host stream.Err) c.report.result)
    (streams stream.Err) c.report.ensures.reported)
