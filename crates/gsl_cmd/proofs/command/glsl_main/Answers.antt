use Rattle.std.proofs.Common.{[], ◌∙◌, Some, ap, refl, subst, sym, arith}
use Rattle.gsl_plan.specs.Plan.{Plan}
use Rattle.gsl_cmd.specs.declared.stop.Stop.TheVariants as stop
use Rattle.gsl_cmd.specs.Written.{Written}
use Rattle.gsl_cmd.proofs.AllJobs.{nothing_done}
use Rattle.gsl_cmd.proofs.Ends.{done_err}
use Rattle.gsl_cmd.proofs.Planned.{compiles_few, runs_few}
use Rattle.gsl_cmd.proofs.Wrote.{performed_written, same_plan}
use Rattle.gsl_cmd.proofs.command.glsl_main.Goals as goal

pub returns-in_default-clause-told : goal.returns-in_default-clause-told
returns-in_default-clause-told g c = λ plan planned files told.
    let faults = g.H.Host.faults c.args.host.now in
    let printed = g.H.Host.printed c.args.host.now in
    done_err plan [] files (g.H.Host.files c.args.host.now) faults faults faults printed printed (λ target. omega arith) (λ target. omega arith) refl
    stop.Memory 4 (nothing_done c.one_owed.ensures.some c.one_owed_of_valid.ensures.some plan files (g.H.Host.files c.args.host.now) faults told) (refl, refl)

pub returns-in-Compile-clause-written : goal.returns-in-Compile-clause-written
returns-in-Compile-clause-written g c = λ zero plan planned files told.
    subst (λ (one : Plan). Written one files (g.H.Host.files c.compile_command.new.host))
    (same_plan (ap (λ names. Some (Plan.Compile c.in-Compile.target c.in-Compile.stage c.in-Compile.out names)) c.as_slice-in-Compile.ensures ∙ rw c.in-Compile.is at c.in-Ok.ensures) planned)
    (performed_written (Plan.Compile c.in-Compile.target c.in-Compile.stage c.in-Compile.out c.as_slice-in-Compile.result.now) files _ _ _ _ _ _ zero (c.compile_command.ensures.told files told))

pub returns-in-Disassemble-clause-written : goal.returns-in-Disassemble-clause-written
returns-in-Disassemble-clause-written g c = λ zero plan planned files told.
    subst (λ (one : Plan). Written one files (g.H.Host.files c.convert_command.new.host))
    (same_plan (rw c.in-Disassemble.is at c.in-Ok.ensures) planned)
    (performed_written (Plan.Disassemble c.in-Disassemble.file c.in-Disassemble.out) files _ _ _ _ _ _ zero (c.convert_command.ensures.told files told))

pub returns-in-Exec-clause-written : goal.returns-in-Exec-clause-written
returns-in-Exec-clause-written g c = λ zero plan planned files told.
    subst (λ (one : Plan). Written one files (g.H.Host.files c.exec_command.new.host))
    (same_plan (rw c.in-Exec.is at c.in-Ok.ensures) planned)
    (performed_written (Plan.Exec c.in-Exec.file c.in-Exec.inputs) files _ _ _ _ _ _ zero (c.exec_command.ensures.told files told))

pub returns-in-Run-clause-written : goal.returns-in-Run-clause-written
returns-in-Run-clause-written g c = λ zero plan planned files told.
    subst (λ (one : Plan). Written one files (g.H.Host.files c.run_command.new.host))
    (same_plan (ap (λ names. Some (Plan.Run c.in-Run.stage c.in-Run.inputs names)) c.as_slice-in-Run.ensures ∙ rw c.in-Run.is at c.in-Ok.ensures) planned)
    (performed_written (Plan.Run c.in-Run.stage c.in-Run.inputs c.as_slice-in-Run.result.now) files _ _ _ _ _ _ zero (c.run_command.ensures.told files told))

pub returns-in-Check-clause-written : goal.returns-in-Check-clause-written
returns-in-Check-clause-written g c = λ zero plan planned files told.
    subst (λ (one : Plan). Written one files (g.H.Host.files c.check_command.new.host))
    (same_plan (rw c.in-Check.is at c.in-Ok.ensures) planned)
    (performed_written (Plan.Check c.in-Check.file) files _ _ _ _ _ _ zero (c.check_command.ensures.told files told))

pub returns-in-Assemble-clause-written : goal.returns-in-Assemble-clause-written
returns-in-Assemble-clause-written g c = λ zero plan planned files told.
    subst (λ (one : Plan). Written one files (g.H.Host.files c.convert_command-in-Assemble.new.host))
    (same_plan (rw c.in-Assemble.is at c.in-Ok.ensures) planned)
    (performed_written (Plan.Assemble c.in-Assemble.file c.in-Assemble.out) files _ _ _ _ _ _ zero (c.convert_command-in-Assemble.ensures.told files told))

pub compile_command-requires : goal.compile_command-requires
compile_command-requires g c =
    compiles_few c.in-Compile.target c.in-Compile.stage c.in-Compile.out c.as_slice-in-Compile.result.now c.args.words.now
    (sym (ap (λ names. Some (Plan.Compile c.in-Compile.target c.in-Compile.stage c.in-Compile.out names)) c.as_slice-in-Compile.ensures ∙ rw c.in-Compile.is at c.in-Ok.ensures))

pub run_command-requires : goal.run_command-requires
run_command-requires g c =
    runs_few c.in-Run.stage c.in-Run.inputs c.as_slice-in-Run.result.now c.args.words.now
    (sym (ap (λ names. Some (Plan.Run c.in-Run.stage c.in-Run.inputs names)) c.as_slice-in-Run.ensures ∙ rw c.in-Run.is at c.in-Ok.ensures))
