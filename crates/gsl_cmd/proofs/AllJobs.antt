-- There is a job of every command over all files, and one.
use Rattle.std.proofs.Common.{◌≡◌, ℕ, [], Option, Some, Err}
use Rattle.std.specs.FinMap.{get}
use Rattle.gsl_host.specs.declared.target.Target.{Target}
use Rattle.gsl_host.specs.Outside.{Files}
use Rattle.gsl_form.specs.Form.{Name}
use Rattle.gsl_plan.specs.Plan.{Plan}
use Rattle.gsl_exec.specs.Owed.{IsOwed, Owed}
use Rattle.gsl_cmd.specs.declared.converting.Conversion.TheVariants.{Disassemble, Assemble}
use Rattle.gsl_cmd.specs.declared.stop.Stop.TheVariants as stop
use Rattle.gsl_cmd.specs.Command.{Ended, OneTaken, SomeTaken}
use Rattle.gsl_cmd.specs.Job.{Job, IsJob, found_in, gather, reads}
use Rattle.gsl_cmd.proofs.CheckJobs.{check_job, one_check}
use Rattle.gsl_cmd.proofs.Converted.{conversion_job, one_conversion}
use Rattle.gsl_cmd.proofs.ExecJobs.{exec_job, one_exec}
use Rattle.gsl_cmd.proofs.Jobs.{compile_job, keeps_same}
use Rattle.gsl_cmd.proofs.RunJobs.{one_run, run_job}
use Rattle.gsl_cmd.proofs.Unique.{one_compile_job}

-- something is owed by `exec`, and no two things are
abbrev pub SomeOwed : Type 0
SomeOwed = (file inputs : Name) (files : Files) → (owed : Owed) × IsOwed file inputs files owed

abbrev pub OneOwed : Type 0
OneOwed = (file inputs : Name) (files : Files) (a b : Owed) → IsOwed file inputs files a → IsOwed file inputs files b → a ≡ b

pub some_job : SomeOwed → SomeTaken → (plan : Plan) (files : Files) → (job : Job) × IsJob plan files job
some_job owed taken (Plan.Compile version stage out names) files = compile_job version stage out names (reads files names) (gather files 0 names)
some_job owed taken (Plan.Disassemble file out) files = conversion_job Disassemble file out (found_in (get files file))
some_job owed taken (Plan.Assemble file out) files = conversion_job Assemble file out (found_in (get files file))
some_job owed taken (Plan.Check file) files = check_job file (found_in (get files file))
some_job owed taken (Plan.Exec file inputs) files = exec_job file inputs files (owed file inputs files)
some_job owed taken (Plan.Run stage inputs names) files = run_job taken stage inputs names files

pub one_job_of : OneOwed → OneTaken → (plan : Plan) (files : Files) (j k : Job) → IsJob plan files j → IsJob plan files k → j ≡ k
one_job_of owed taken (Plan.Compile version stage out names) files j k js ks = one_compile_job version stage out names (reads files names) (gather files 0 names) j k js ks
one_job_of owed taken (Plan.Disassemble file out) files j k js ks = one_conversion Disassemble file out (found_in (get files file)) j k js ks
one_job_of owed taken (Plan.Assemble file out) files j k js ks = one_conversion Assemble file out (found_in (get files file)) j k js ks
one_job_of owed taken (Plan.Check file) files j k js ks = one_check file (found_in (get files file)) j k js ks
one_job_of owed taken (Plan.Exec file inputs) files j k js ks = one_exec file inputs files (owed file inputs files) j k js ks
one_job_of owed taken (Plan.Run stage inputs names) files j k js ks = one_run taken files stage names j k inputs (reads files names) (gather files 0 names) js ks

-- where nothing was done at all
pub nothing_done : SomeOwed → SomeTaken → (plan : Plan) (files : Files) (after : Option Files) (faults : Target → ℕ) → after ≡ Some files → Ended plan [] files after faults faults (Err stop.Memory)
nothing_done owed taken plan files after faults same =
    let j = some_job owed taken plan files in
    record { job = j.0; is_job = j.1; out = λ none. absurd none; did = tt; kept = keeps_same j.0.effect files after same }
