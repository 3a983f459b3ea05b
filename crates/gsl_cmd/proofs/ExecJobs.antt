-- The job of `exec`: that there is one, what its steps have done of it, what it may reach for, and what status 0 says.
use Rattle.std.proofs.Common.{◌≡◌, ℕ, ◌≤◌, List, Option, Some, None, Result, Ok, Err, refl, ap, sym, subst, ◌∙◌, arith, inl, inr}
use Rattle.gsl_host.specs.declared.target.Stream.TheVariants as stream
use Rattle.gsl_host.specs.declared.target.Target.{Target}
use Rattle.gsl_host.specs.declared.target.Target.TheVariants.{Reading, Printing}
use Rattle.gsl_host.specs.Outside.{Files, NeverFall, Rose}
use Rattle.gsl_plan.specs.Plan.{Plan, Name}
use Rattle.gsl_exec.specs.declared.stop.Stop.{Stop}
use Rattle.gsl_exec.specs.declared.stop.Stop.TheVariants as stop
use Rattle.gsl_exec.specs.Owed.{IsOwed, Owed}
use Rattle.gsl_exec.specs.Steps as run
use Rattle.gsl_exec.proofs.Done.{owed_done}
use Rattle.gsl_exec.proofs.Reached.{owed_within}
use Rattle.gsl_cmd.specs.Command.{Comes, Ends, Finished, HasOwn, IsOwn, Reaches}
use Rattle.gsl_cmd.specs.Job.{Job, IsExecJob, IsJob, job_of}
use Rattle.gsl_cmd.specs.Performs.{effect_on}
use Rattle.gsl_cmd.specs.Targets.{MayReach}
use Rattle.gsl_cmd.specs.Written.{Written}
use Rattle.gsl_cmd.proofs.Finished.{host_failed}
use Rattle.gsl_cmd.proofs.Streams.{earlier_rise, later_rise}

-- ---- there is a job, and one

pub exec_job : (file inputs : Name) (files : Files) → (owed : Owed) × IsOwed file inputs files owed → (job : Job) × IsExecJob file inputs files job
exec_job file inputs files (owed, is) = (job_of owed, (owed, is, refl))

pub one_exec : (file inputs : Name) (files : Files) → ((a b : Owed) → IsOwed file inputs files a → IsOwed file inputs files b → a ≡ b) → (j k : Job)
    → IsExecJob file inputs files j → IsExecJob file inputs files k → j ≡ k
one_exec file inputs files one j k (a, is, js) (b, also, ks) = js ∙ ap job_of (one a b is also) ∙ sym ks

-- ---- how far the steps have come

pub own_status : (status : ℕ) → 5 ≤ status → IsOwn status
own_status status least = (λ is. omega (arith, least, is), λ is. omega (arith, least, is), λ is. omega (arith, least, is))

pub has_own : (end : Result (List ℕ) Stop) → run.HasStatus end → HasOwn end
has_own (Ok text) line = tt
has_own (Err (stop.Told status text)) line = own_status status line.0
has_own (Err stop.Host) line = tt
has_own (Err stop.Memory) line = tt

pub job_comes : (faults faults' : Target → ℕ) (owed : Owed) (end : Result (List ℕ) Stop) → run.Comes (run.Reaches faults faults' owed) owed end
    → Comes (Reaches faults faults' (job_of owed)) (job_of owed) end
job_comes faults faults' owed (Ok text) lists = record { status = lists.status; out = lists.out; err = lists.err; keeps = refl; reached = lists.reached }
job_comes faults faults' owed (Err (stop.Told status text)) tells =
    record { ends = tells.ends; quiet = tells.quiet; says = tells.says; keeps = refl; own = own_status status tells.least }
job_comes faults faults' owed (Err stop.Host) reaches = (refl, reaches)
job_comes faults faults' owed (Err stop.Memory) comes = refl

pub exec_ends : (file inputs : Name) (files : Files) (faults faults' : Target → ℕ) (end : Result (List ℕ) Stop) → run.Ends (IsOwed file inputs files) faults faults' end
    → Ends (IsExecJob file inputs files) faults faults' end
exec_ends file inputs files faults faults' end (owed, is, comes) = (job_of owed, (owed, is, refl), job_comes faults faults' owed end comes)

-- ---- what it may reach for

module _ (file inputs : Name) (known : Option Files) (first then last : Target → ℕ) (end : Result (List ℕ) Stop) (up : NeverFall first then) (over : NeverFall then last)
    (told : (files : Files) → known ≡ Some files → run.Ends (IsOwed file inputs files) first then end)
    (failed : end ≡ Err stop.Host → (name : Name) × Rose first then (Reading name)) where
  abbrev plan : Plan
  plan = Plan.Exec file inputs

  abbrev Cause : Option Files → Type 0
  Cause files = (target : Target) × MayReach plan files target × Rose first last target

  abbrev May : Files → Target → Type 0
  May files target = MayReach plan (Some files) target

  by_owed : (files : Files) → end ≡ Err stop.Host → run.Ends (IsOwed file inputs files) first then end → Cause (Some files)
  by_owed files is (owed, its, comes) =
      let reaches : run.Reaches first then owed = subst (run.Comes (run.Reaches first then owed) owed) is comes in
      let within = owed_within (May files) (inl (2, omega arith, refl)) owed files inputs (λ target named. inr named) file (inl (0, omega arith, refl)) (inl (1, omega arith, refl)) its in
      (reaches.0, within reaches.0 reaches.1, earlier_rise first then last reaches.0 reaches.2 over)

  before : end ≡ Err stop.Host → Cause known
  before is =
      elim known as (λ files. known ≡ files → Cause files) [
        | None ↦ λ e. let read = failed is in (Reading read.0, inr (read.0, refl), earlier_rise first then last (Reading read.0) read.1 over)
        | Some files ↦ λ e. by_owed files is (told files e)
      ] refl

  pub exec_cause : (out out' err err' : Option (List ℕ)) (status : ℕ) → HasOwn end → Finished end then last out out' err err' status → status ≡ 3 → Cause known
  exec_cause out out' err err' status own ended three =
      elim (host_failed then last out out' err err' status end own ended three) [
        | inl is ↦ before is
        | inr rose ↦ printing known rose
      ]
    where
      printing : (files : Option Files) → Rose then last (Printing stream.Out) → Cause files
      printing files rose = (Printing stream.Out, inl (2, omega arith, refl), later_rise first then last (Printing stream.Out) up rose)

-- ---- what status 0 says

pub exec_written : (file inputs : Name) (before : Files) (after : Option Files) (job : Job) → job.status ≡ 0 → after ≡ Some (effect_on job.effect before) → IsJob (Plan.Exec file inputs) before job
    → Written (Plan.Exec file inputs) before after
exec_written file inputs before after job zero files (owed, is, same) =
    let done = owed_done owed (sym (ap (λ (j : Job). j.status) same) ∙ zero) before inputs file is in
    let ran = done.2 in
    (done.0, ran.0, ran.3.0, done.1, ran.1, ran.2, ran.3.1, files ∙ ap (λ (j : Job). Some (effect_on j.effect before)) same)
