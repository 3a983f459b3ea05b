use Rattle.gsl_cmd.specs.Verdict.{linked_of}
use Rattle.gsl_reference.proofs.Runs.{program_made, program_stopped}
use Rattle.gsl_reference.proofs.running.run_program.Goals as goal

pub returns-in-Ok-clause-told : goal.returns-in-Ok-clause-told
returns-in-Ok-clause-told g c = λ read files told targets.
    program_made read files c.args.names.now targets c.args.bytes.now (g.H.Host.faults c.args.host.now) (g.H.Host.faults c.run_by.new.host)
    (linked_of c.args.stage c.args.sources.now) c.in-Ok.program c.run_by.result c.in-Ok.ensures.made (c.run_by.ensures.told read files told targets)

pub returns-in-Err-clause-told : goal.returns-in-Err-clause-told
returns-in-Err-clause-told g c = λ read files told targets.
    program_stopped read files c.args.names.now targets c.args.bytes.now (g.H.Host.faults c.args.host.now) (g.H.Host.faults c.args.host.now)
    (linked_of c.args.stage c.args.sources.now) c.in-Err.stop c.in-Err.ensures.made
