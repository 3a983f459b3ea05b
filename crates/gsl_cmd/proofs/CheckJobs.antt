-- The job of `check`: that there is one, what its steps have done of it, and what status 0 says.
use Rattle.std.proofs.Common.{◌≡◌, ℕ, ◌≤◌, List, [], ◌∷◌, length, Option, Some, None, Result, Ok, Err, refl, ap, sym, subst, ◌∙◌, arith, inl, inr}
use Rattle.std.specs.Prelude.{Contains, MatchResult}
use Rattle.std.specs.FinMap.{get}
use Rattle.gsl_host.specs.declared.target.Stream.TheVariants as stream
use Rattle.gsl_host.specs.declared.target.Target.{Target}
use Rattle.gsl_host.specs.declared.target.Target.TheVariants.{Reading, Printing}
use Rattle.gsl_host.specs.Outside.{Files, NeverFall, Rose}
use Rattle.gsl_words.specs.declared.module.Module.{Module}
use Rattle.gsl_plan.specs.Plan.{Plan, Name}
use Rattle.gsl_exec.specs.declared.reading.TheConstants.{MAX_MODULE_BYTES}
use Rattle.gsl_exec.specs.declared.stop.Stop.{Stop}
use Rattle.gsl_exec.specs.declared.stop.Stop.TheVariants as stop
use Rattle.gsl_exec.specs.Judged.{refusal_of}
use Rattle.gsl_exec.specs.Owed.{Read, Missing, Longer, Whole}
use Rattle.gsl_exec.specs.Steps.{JudgesBytes, ReadsModuleTold}
use Rattle.gsl_exec.specs.Texts.{module_long_text}
use Rattle.gsl_exec.proofs.Done.{whole_is}
use Rattle.gsl_exec.proofs.Runs.{is_longer, is_whole}
use Rattle.gsl_exec.proofs.Verdicts.{is_valid, judged_file, of_file, one_file}
use Rattle.gsl_cmd.specs.Checking.{Checks}
use Rattle.gsl_cmd.specs.Command.{ChecksBytes, Ends, Finished, HasOwn, IsOwn, Says}
use Rattle.gsl_cmd.specs.Job.{Job, Effect, IsJob, IsCheckJob, failed, rejected, checked_of, found_in}
use Rattle.gsl_cmd.specs.Performs.{effect_on}
use Rattle.gsl_cmd.specs.Targets.{targets_of}
use Rattle.gsl_cmd.specs.Texts.{valid_text}
use Rattle.gsl_cmd.specs.Written.{Written}
use Rattle.gsl_cmd.proofs.Finished.{host_failed}
use Rattle.gsl_cmd.proofs.Streams.{earlier_rise, later_rise}

-- ---- there is a job, and one

pub check_job : (file : Name) (found : Read) → (job : Job) × IsCheckJob file job found
check_job file Missing = (failed (Reading file ∷ []), refl)
check_job file Longer = (rejected module_long_text file, refl)
check_job file (Whole l) = let v = judged_file l in (checked_of file (refusal_of v.0), (refusal_of v.0, (v.0, v.1, refl), refl))

pub one_check : (file : Name) (found : Read) (j k : Job) → IsCheckJob file j found → IsCheckJob file k found → j ≡ k
one_check file Missing j k js ks = js ∙ sym ks
one_check file Longer j k js ks = js ∙ sym ks
one_check file (Whole l) j k (a, (v, jv, av), js) (b, (w, jw, bw), ks) =
    js ∙ ap (checked_of file) (av ∙ ap refusal_of (one_file l v w jv jw) ∙ sym bw) ∙ sym ks

-- ---- what is told of a file's bytes

pub checks_valid : (bytes : List ℕ) (m : Module) (end : Result (List ℕ) Stop) → JudgesBytes bytes (Ok m) → MatchResult end (λ text. text ≡ valid_text) (λ why. why ≡ stop.Memory)
    → ChecksBytes bytes end
checks_valid bytes m (Ok text) (judged, kept, valid) is = ((Ok m, judged, sym kept), is)
checks_valid bytes m (Err why) judged is = subst (λ (s : Stop). ChecksBytes bytes (Err s)) (sym is) tt

pub checks_stop : (bytes : List ℕ) (why : Stop) → JudgesBytes bytes (Err why) → ChecksBytes bytes (Err why)
checks_stop bytes (stop.Told status text) (eight, (verdict, judged, is)) = (eight, (verdict, judged, sym is))
checks_stop bytes stop.Memory judged = tt
checks_stop bytes stop.Host judged = absurd judged

eight_own : (status : ℕ) → status ≡ 8 → IsOwn status
eight_own status is = (λ e. absurd (let no : 8 ≡ 2 = sym is ∙ e in cc), λ e. absurd (let no : 8 ≡ 3 = sym is ∙ e in cc), λ e. absurd (let no : 8 ≡ 4 = sym is ∙ e in cc))

pub checks_own : (bytes : List ℕ) (end : Result (List ℕ) Stop) → ChecksBytes bytes end → HasOwn end
checks_own bytes (Ok text) checks = tt
checks_own bytes (Err (stop.Told status text)) (eight, checks) = eight_own status eight
checks_own bytes (Err stop.Memory) checks = tt
checks_own bytes (Err stop.Host) checks = tt

pub checks_no_host : (bytes : List ℕ) (end : Result (List ℕ) Stop) → ChecksBytes bytes end → end ≡ Err stop.Host → ⊥
checks_no_host bytes end checks is = subst (ChecksBytes bytes) is checks

-- ---- how far the steps have come

module _ (file : Name) (files : Files) (faults faults' : Target → ℕ) where
  abbrev pub IsIts : Job → Type 0
  IsIts job = IsCheckJob file job (found_in (get files file))

  abbrev Came : Result (List ℕ) Stop → Type 0
  Came end = Ends IsIts faults faults' end

  whole : (bytes : List ℕ) → get files file ≡ Some bytes → length bytes ≤ MAX_MODULE_BYTES → found_in (get files file) ≡ Whole bytes
  whole = is_whole MAX_MODULE_BYTES (get files file)

  says : (text line : List ℕ) (status : ℕ) → status ≡ 8 → line ≡ text → Says (rejected text file) status line
  says text line status eight is = record { ends = sym eight; quiet = refl; says = sym is; keeps = refl; own = eight_own status eight }

  -- the job reaches for its file
  reads_in : (job : Job) (found : Read) → IsCheckJob file job found → Contains job.targets (Reading file)
  reads_in job Missing is = subst (λ (j : Job). Contains j.targets (Reading file)) (sym is) (0, omega arith, refl)
  reads_in job Longer is = subst (λ (j : Job). Contains j.targets (Reading file)) (sym is) (0, omega arith, refl)
  reads_in job (Whole bytes) (None, made, is) = subst (λ (j : Job). Contains j.targets (Reading file)) (sym is) (0, omega arith, refl)
  reads_in job (Whole bytes) (Some text, made, is) = subst (λ (j : Job). Contains j.targets (Reading file)) (sym is) (0, omega arith, refl)

  -- no job of `check` writes a file
  keeps_in : (job : Job) (found : Read) → IsCheckJob file job found → job.effect ≡ Effect.Keeps
  keeps_in job Missing is = ap (λ (j : Job). j.effect) is
  keeps_in job Longer is = ap (λ (j : Job). j.effect) is
  keeps_in job (Whole bytes) (None, made, is) = ap (λ (j : Job). j.effect) is
  keeps_in job (Whole bytes) (Some text, made, is) = ap (λ (j : Job). j.effect) is

  memory : Came (Err stop.Memory)
  memory = let j = check_job file (found_in (get files file)) in (j.0, j.1, keeps_in j.0 _ j.1)

  pub checks_read : (why : Stop) → ReadsModuleTold files file (Err why) → (why ≡ stop.Host → Rose faults faults' (Reading file)) → Came (Err why)
  checks_read stop.Memory told rose = memory
  checks_read stop.Host told rose =
      let j = check_job file (found_in (get files file)) in (j.0, j.1, (keeps_in j.0 _ j.1, (Reading file, reads_in j.0 _ j.1, rose refl)))
  checks_read (stop.Told status text) (some, eight, is) rose =
      (rejected module_long_text file, subst (IsCheckJob file (rejected module_long_text file)) (sym (is_longer MAX_MODULE_BYTES (get files file) some)) refl, says module_long_text text status eight is)

  in_whole : (bytes : List ℕ) (refusal : Option (List ℕ)) → found_in (get files file) ≡ Whole bytes → Checks bytes refusal → IsIts (checked_of file refusal)
  in_whole bytes refusal found is = subst (IsCheckJob file (checked_of file refusal)) (sym found) (refusal, is, refl)

  pub checks_whole : (bytes : List ℕ) (end : Result (List ℕ) Stop) → get files file ≡ Some bytes → length bytes ≤ MAX_MODULE_BYTES → ChecksBytes bytes end → Came end
  checks_whole bytes (Ok text) read short (checks, is) = (
    checked_of file None,
    in_whole bytes None (whole bytes read short) checks,
    record { status = refl; out = sym is; err = refl; keeps = refl; reached = (1, omega arith, refl) },
  )
  checks_whole bytes (Err (stop.Told status text)) read short (eight, checks) = (
    rejected text file,
    in_whole bytes (Some text) (whole bytes read short) checks,
    says text text status eight refl,
  )
  checks_whole bytes (Err stop.Memory) read short checks = memory
  checks_whole bytes (Err stop.Host) read short checks = absurd checks

-- ---- what failed

pub check_cause : (file : Name) (first then last : Target → ℕ) (end : Result (List ℕ) Stop) (out out' err err' : Option (List ℕ)) (status : ℕ) → NeverFall first then → NeverFall then last
    → (end ≡ Err stop.Host → Rose first then (Reading file)) → HasOwn end → Finished end then last out out' err err' status → status ≡ 3
    → (target : Target) × Contains (targets_of (Plan.Check file)) target × Rose first last target
check_cause file first then last end out out' err err' status up over failed own ended three =
    elim (host_failed then last out out' err err' status end own ended three) [
      | inl is ↦ (Reading file, (0, omega arith, refl), earlier_rise first then last (Reading file) (failed is) over)
      | inr rose ↦ (Printing stream.Out, (1, omega arith, refl), later_rise first then last (Printing stream.Out) up rose)
    ]

-- ---- what status 0 says

module _ (file : Name) (before : Files) (after : Option Files) (job : Job) (zero : job.status ≡ 0) (files : after ≡ Some (effect_on job.effect before)) where
  status : {k : ℕ} (j : Job) → job ≡ j → j.status ≡ k → k ≡ 0
  status j is e = sym e ∙ sym (ap (λ (x : Job). x.status) is) ∙ zero

  written_in : (found : Read) → found_in (get before file) ≡ found → IsCheckJob file job found → Written (Plan.Check file) before after
  written_in Missing e is = absurd (let no : 3 ≡ 0 = status _ is refl in cc)
  written_in Longer e is = absurd (let no : 8 ≡ 0 = status _ is refl in cc)
  written_in (Whole l) e (Some text, made, is) = absurd (let no : 8 ≡ 0 = status _ is refl in cc)
  written_in (Whole l) e (None, (Err fault, judged, made), is) = absurd (cc)
  written_in (Whole l) e (None, (Ok m, judged, made), is) =
      (l, m, whole_is MAX_MODULE_BYTES (get before file) l e, is_valid l m judged (sym made), (of_file l m judged).2, files ∙ ap (λ (x : Job). Some (effect_on x.effect before)) is)

  pub check_written : IsJob (Plan.Check file) before job → Written (Plan.Check file) before after
  check_written is = written_in (found_in (get before file)) refl is
