-- A job that was done with status 0 has written a valid module.
use Rattle.std.proofs.Common.{◌≡◌, ◌≢◌, ℕ, List, Option, Some, Ok, Err, refl, ap, sym, ◌∙◌}
use Rattle.gsl_host.specs.Outside.{Files}
use Rattle.gsl_host.specs.declared.target.Stream.{Stream}
use Rattle.gsl_host.specs.declared.target.Target.{Target}
use Rattle.gsl_form.specs.Form.{Name}
use Rattle.gsl_cmd.specs.Job.{Job, IsJob, IsCompileJob, Gathered, Sources, Absent, TooLong, gather, reads}
use Rattle.gsl_cmd.specs.Performs.{Performs, effect_on}
use Rattle.gsl_plan.specs.Plan.{Plan}
use Rattle.gsl_cmd.specs.Written.{Written}
use Rattle.gsl_base.specs.declared.stage.Stage.{Stage}
use Rattle.gsl_words.specs.declared.target.Target.{Target as Version}
use Rattle.gsl_cmd.proofs.Converted.{shown_written, assembled_written}
use Rattle.gsl_cmd.proofs.CheckJobs.{check_written}
use Rattle.gsl_cmd.proofs.ExecJobs.{exec_written}
use Rattle.gsl_cmd.proofs.RunJobs.{run_written}
use Rattle.gsl_cmd.proofs.Compiled.{promised}

module _ (version : Version) (stage : Stage) (out : Name) (names : List Name) (before : Files) (after : Option Files) (job : Job)
    (zero : job.status ≡ 0) (files : after ≡ Some (effect_on job.effect before)) where
  by_gathered : (gathered : Gathered) → gather before 0 names ≡ gathered → IsCompileJob version stage out names (reads before names) job gathered →
      Written (Plan.Compile version stage out names) before after
  by_gathered Absent e is = absurd (let no : 3 ≡ 0 = sym (ap (λ (j : Job). j.status) is) ∙ zero in cc)
  by_gathered (TooLong unit) e is = absurd (let no : 1 ≡ 0 = sym (ap (λ (j : Job). j.status) is) ∙ zero in cc)
  by_gathered (Sources sources) e (Err fault, right, is) = absurd (let no : 1 ≡ 0 = sym (ap (λ (j : Job). j.status) is) ∙ zero in cc)
  by_gathered (Sources sources) e (Ok m, right, is) = (
    sources,
    m,
    e,
    right,
    files ∙ ap Some (ap (λ (j : Job). effect_on j.effect before) is),
    promised version stage sources m right,
  )

pub job_written : (plan : Plan) (before : Files) (after : Option Files) (job : Job) → IsJob plan before job → job.status ≡ 0 →
    after ≡ Some (effect_on job.effect before) → Written plan before after
job_written (Plan.Compile version stage out names) before after job is zero files = by_gathered version stage out names before after job zero files (gather before 0 names) refl is
job_written (Plan.Disassemble file out) before after job is zero files = shown_written file out before after job zero files is
job_written (Plan.Assemble file out) before after job is zero files = assembled_written file out before after job zero files is
job_written (Plan.Check file) before after job is zero files = check_written file before after job zero files is
job_written (Plan.Exec file inputs) before after job is zero files = exec_written file inputs before after job zero files is
job_written (Plan.Run stage inputs names) before after job is zero files = run_written stage inputs names before after job zero files is

pub performed_written : (plan : Plan) (before : Files) (after : Option Files) (faults faults' : Target → ℕ)
    (printed printed' : Stream → Option (List ℕ)) (status : ℕ) → status ≡ 0 →
    (job : Job) × IsJob plan before job × Performs job before after faults faults' printed printed' status → Written plan before after
performed_written plan before after faults faults' printed printed' status zero (job, is, did) =
    let no3 : status ≢ 3 = λ e. absurd (let no : 0 ≡ 3 = sym zero ∙ e in cc) in
    let no4 : status ≢ 4 = λ e. absurd (let no : 0 ≡ 4 = sym zero ∙ e in cc) in
    job_written plan before after job is (sym (did.status_is no3 no4) ∙ zero) (did.files no3 no4)

pub same_plan : {one other : Plan} {planned : Option Plan} → Some one ≡ planned → planned ≡ Some other → one ≡ other
same_plan e f = let both = e ∙ f in cc
