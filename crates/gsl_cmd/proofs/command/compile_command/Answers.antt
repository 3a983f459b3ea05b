use Rattle.std.proofs.Common.{ℕ, List, ◌∙◌, sym, subst, arith, Option, Err}
use Rattle.gsl_host.specs.declared.target.Stream.TheVariants as stream
use Rattle.gsl_host.specs.Outside.{Files}
use Rattle.gsl_plan.specs.Plan.{Plan}
use Rattle.gsl_cmd.specs.Command.{Ended, Reported}
use Rattle.gsl_cmd.proofs.Ends.{done_ok, done_err}
use Rattle.gsl_cmd.proofs.command.compile_command.Goals as goal

pub returns-in-Ok-clause-told : goal.returns-in-Ok-clause-told
returns-in-Ok-clause-told g c = λ files told.
    let streams = c.in-Ok.ensures.streams in
    done_ok (Plan.Compile c.args.version c.args.stage c.args.out.now c.args.names.now) c.args.names.now files (g.H.Host.files c.compile_files.new.host)
    (g.H.Host.faults c.args.host.now) (g.H.Host.faults c.compile_files.new.host) (g.H.Host.faults c.compile_files.new.host)
    (g.H.Host.printed c.args.host.now) (g.H.Host.printed c.compile_files.new.host)
    c.in-Ok.ensures.faults (λ target. omega arith) (streams stream.Out) (c.in-Ok.ensures.told files told) (streams stream.Err)

pub returns-in-Err-clause-told : goal.returns-in-Err-clause-told
returns-in-Err-clause-told g c = λ files told.
    let streams = c.in-Err.ensures.streams in
    let plan = Plan.Compile c.args.version c.args.stage c.args.out.now c.args.names.now in
    let first = g.H.Host.faults c.args.host.now in
    let then = g.H.Host.faults c.compile_files.new.host in
    let last = g.H.Host.faults c.report.new.host in
    let said = subst (λ (shown : Option (List ℕ)). Reported c.args.names.now c.in-Err.stop then last shown (g.H.Host.printed c.report.new.host stream.Err) c.report.result)
    (streams stream.Err) c.report.ensures.reported in
    let came = subst (λ (after : Option Files). Ended plan c.args.names.now files after first then (Err c.in-Err.stop))
    (sym c.report.ensures.files) (c.in-Err.ensures.told files told) in
    done_err plan c.args.names.now files (g.H.Host.files c.report.new.host) first then last (g.H.Host.printed c.args.host.now) (g.H.Host.printed c.report.new.host)
    c.in-Err.ensures.faults c.report.ensures.faults (c.report.ensures.out ∙ streams stream.Out) c.in-Err.stop c.report.result came said
