-- The job of `run`: that there is one, what its steps have done of it, what it may reach for, and what status 0 says.
use Rattle.std.proofs.Common.{◌≡◌, ℕ, zero, suc, ◌≤◌, List, [], ◌∷◌, ◌++◌, length, Option, Some, None, Result, Ok, Err, refl, ap, sym, subst, ◌∙◌, arith, inl, inr}
use Rattle.std.specs.Prelude.{IfOk, MatchResult, Contains, map}
use Rattle.std.specs.FinMap.{get}
use Rattle.gsl_base.specs.declared.stage.Stage.{Stage}
use Rattle.gsl_base.specs.declared.fault.Code.TheVariants.{E0900}
use Rattle.gsl_base.specs.declared.fault.Fault.{Fault}
use Rattle.gsl_base.specs.Checked.{Checked}
use Rattle.gsl_host.specs.declared.target.Stream.TheVariants as stream
use Rattle.gsl_host.specs.declared.target.Target.{Target}
use Rattle.gsl_host.specs.declared.target.Target.TheVariants.{Reading, Printing}
use Rattle.gsl_host.specs.Outside.{Files, NeverFall, Rose}
use Rattle.gsl_form.specs.Form.{Name}
use Rattle.gsl_given.specs.declared.given.TheConstants.{MAX_MANIFEST_BYTES}
use Rattle.gsl_given.specs.declared.stop.Stop.{Stop as Ungiven}
use Rattle.gsl_given.specs.declared.stop.Stop.TheVariants as ungiven
use Rattle.gsl_given.specs.Given.{ReadsManifestTold}
use Rattle.gsl_given.specs.Texts.{long_text}
use Rattle.gsl_words.specs.declared.module.Module.{Module}
use Rattle.gsl_words.specs.declared.target.Target.TheVariants.{V10}
use Rattle.gsl_plan.specs.Plan.{Plan}
use Rattle.gsl_exec.specs.declared.stop.Stop.{Stop}
use Rattle.gsl_exec.specs.declared.stop.Stop.TheVariants as stop
use Rattle.gsl_exec.specs.Owed.{IsTaken, Read, Missing, Longer, Whole, read_of, told}
use Rattle.gsl_exec.specs.Steps as run
use Rattle.gsl_exec.proofs.Done as done
use Rattle.gsl_exec.proofs.Keeping.{contains_behind}
use Rattle.gsl_exec.proofs.Reached as reached
use Rattle.gsl_exec.proofs.Runs.{is_longer, is_whole}
use Rattle.gsl_cmd.specs.declared.stop.Stop.{Stop as Unread}
use Rattle.gsl_cmd.specs.declared.stop.Stop.TheVariants as unread
use Rattle.gsl_cmd.specs.Command.{Comes, Ends, Finished, HasOwn, IsOwn, MakesModule, OneTaken, Reaches, ReadsGathered, SomeTaken, Unreads, behind_sources}
use Rattle.gsl_cmd.specs.Job.{Job, Effect, Gathered, Sources, Absent, TooLong, IsJob, IsInputsJob, IsModuleJob, IsRunJob, IsTextJob, failed, gather, is_source, job_of, reads, refused}
use Rattle.gsl_cmd.specs.Performs.{effect_on}
use Rattle.gsl_cmd.specs.Targets.{MayReach, targets_of}
use Rattle.gsl_cmd.specs.Texts.{told_fault}
use Rattle.gsl_cmd.specs.Verdict.{FirstFault, Judges, fault_in}
use Rattle.gsl_cmd.specs.Written.{Written}
use Rattle.gsl_cmd.proofs.Compiled.{promised}
use Rattle.gsl_cmd.proofs.ExecJobs.{job_comes, own_status}
use Rattle.gsl_cmd.proofs.Finished.{host_failed}
use Rattle.gsl_cmd.proofs.Jobs.{behind_no_sources, contains_front, some_verdict}
use Rattle.gsl_cmd.proofs.Streams.{earlier_rise, later_rise}
use Rattle.gsl_cmd.proofs.Unique.{one_judged}

-- ---- there is a job, and one

-- It is such a job, writes no file, and reaches for these.
abbrev pub Kept : (Job → Type 0) → List Target → Type 0
Kept IsIts targets = (job : Job) × IsIts job × (job.effect ≡ Effect.Keeps) × ((target : Target) → Contains targets target → Contains job.targets target)

module _ (some : SomeTaken) (files : Files) (stage : Stage) (names : List Name) where
  some_module : (sources : List (List ℕ)) (text : List ℕ) (targets : List Target) (verdict : Checked Module) → Judges V10 stage sources verdict
      → Kept (λ job. IsModuleJob files names text targets job verdict) targets
  some_module sources text targets (Ok m) right =
      let its = some m (promised V10 stage sources m right).valid files text targets in (job_of its.0, (its.0, its.1, refl), refl, its.2)
  some_module sources text targets (Err fault) right = (refused names targets fault, refl, refl, λ target at. at)

  pub some_text : (sources : List (List ℕ)) (text : List ℕ) (targets : List Target) → Kept (IsTextJob files stage names sources text targets) targets
  some_text sources text targets =
      let verdict = some_verdict V10 stage sources in
      let its = some_module sources text targets verdict.0 verdict.1 in
      (its.0, (verdict.0, verdict.1, its.1), its.2, its.3)

  pub some_inputs : (sources : List (List ℕ)) (targets : List Target) (found : Read) → Kept (λ job. IsInputsJob files stage names sources targets job found) targets
  some_inputs sources targets Missing = (failed targets, refl, refl, λ target at. at)
  some_inputs sources targets Longer = (job_of (told 7 long_text targets), refl, refl, λ target at. at)
  some_inputs sources targets (Whole text) = some_text sources text targets

  pub some_run : (inputs : Name) (targets : List Target) (gathered : Gathered) → Kept (λ job. IsRunJob stage inputs names files targets job gathered) targets
  some_run inputs targets Absent = (failed targets, refl, refl, λ target at. at)
  some_run inputs targets (TooLong unit) = (refused names targets (fault_in unit E0900), refl, refl, λ target at. at)
  some_run inputs targets (Sources sources) =
      let its = some_inputs sources (targets ++ Reading inputs ∷ []) (read_of MAX_MANIFEST_BYTES (get files inputs)) in
      (its.0, its.1, its.2, λ target at. its.3 target (contains_front target targets (Reading inputs ∷ []) at))

pub run_job : SomeTaken → (stage : Stage) (inputs : Name) (names : List Name) (files : Files) → (job : Job) × IsJob (Plan.Run stage inputs names) files job
run_job some stage inputs names files = let its = some_run some files stage names inputs (reads files names) (gather files 0 names) in (its.0, its.1)

module _ (one : OneTaken) (files : Files) (stage : Stage) (names : List Name) (j k : Job) where
  one_module : (text : List ℕ) (targets : List Target) (verdict : Checked Module) → IsModuleJob files names text targets j verdict → IsModuleJob files names text targets k verdict → j ≡ k
  one_module text targets (Ok m) (a, is, js) (b, also, ks) = js ∙ ap job_of (one m files text targets a b is also) ∙ sym ks
  one_module text targets (Err fault) js ks = js ∙ sym ks

  one_inputs : (sources : List (List ℕ)) (targets : List Target) (found : Read) → IsInputsJob files stage names sources targets j found → IsInputsJob files stage names sources targets k found → j ≡ k
  one_inputs sources targets Missing js ks = js ∙ sym ks
  one_inputs sources targets Longer js ks = js ∙ sym ks
  one_inputs sources targets (Whole text) (v, vs, js) (w, ws, ks) =
      one_module text targets v js (subst (IsModuleJob files names text targets k) (one_judged V10 stage sources w v ws vs) ks)

  pub one_run : (inputs : Name) (targets : List Target) (gathered : Gathered) → IsRunJob stage inputs names files targets j gathered → IsRunJob stage inputs names files targets k gathered → j ≡ k
  one_run inputs targets Absent js ks = js ∙ sym ks
  one_run inputs targets (TooLong unit) js ks = js ∙ sym ks
  one_run inputs targets (Sources sources) js ks = one_inputs sources _ (read_of MAX_MANIFEST_BYTES (get files inputs)) js ks

-- ---- statuses

own_one : (status : ℕ) → status ≡ 1 → IsOwn status
own_one status is = (λ e. absurd (let no : 1 ≡ 2 = sym is ∙ e in cc), λ e. absurd (let no : 1 ≡ 3 = sym is ∙ e in cc), λ e. absurd (let no : 1 ≡ 4 = sym is ∙ e in cc))

pub stopped_own : (why : Ungiven) (end : Stop) → end ≡ run.stopped why → HasOwn (Err end)
stopped_own why end is = subst (λ (s : Stop). HasOwn (Err s)) (sym is) (own why)
  where
    own : (why : Ungiven) → HasOwn (Err (run.stopped why))
    own (ungiven.Refused text) = own_status 7 (omega arith)
    own ungiven.Host = tt
    own ungiven.Memory = tt

pub unread_own : (names : List Name) (why : Unread) (end : Stop) → Unreads names why end → HasOwn (Err end)
unread_own names (unread.Fault fault) (stop.Told status text) is = own_one status is.0
unread_own names (unread.Fault fault) stop.Host is = tt
unread_own names (unread.Fault fault) stop.Memory is = tt
unread_own names (unread.Rejected text) end is = subst (λ (s : Stop). HasOwn (Err s)) (sym is) (own_status 8 (omega arith))
unread_own names unread.Host end is = subst (λ (s : Stop). HasOwn (Err s)) (sym is) tt
unread_own names unread.Memory end is = subst (λ (s : Stop). HasOwn (Err s)) (sym is) tt

pub made_own : (stage : Stage) (sources : List (List ℕ)) (names : List Name) (why : Stop) → MakesModule stage sources names (Err why) → HasOwn (Err why)
made_own stage sources names (stop.Told status text) (fault, first, one, is) = own_one status one
made_own stage sources names stop.Host made = tt
made_own stage sources names stop.Memory made = tt

-- ---- the line of a fault

pub made_told : {E : Type 0} (stage : Stage) (sources : List (List ℕ)) (names : List Name) (fault : Fault) (line : Result (List ℕ) E) (end : Stop) → FirstFault V10 stage sources fault
    → IfOk line (λ text. text ≡ told_fault names fault) → MatchResult line (λ text. end ≡ stop.Told 1 text) (λ _. end ≡ stop.Memory) → MakesModule stage sources names (Err end)
made_told stage sources names fault (Ok text) end first is e = subst (λ (s : Stop). MakesModule stage sources names (Err s)) (sym e) (fault, first, refl, is)
made_told stage sources names fault (Err x) end first is e = subst (λ (s : Stop). MakesModule stage sources names (Err s)) (sym e) tt

pub fault_told : {E : Type 0} (names : List Name) (fault : Fault) (line : Result (List ℕ) E) (end : Stop) → IfOk line (λ text. text ≡ told_fault names fault)
    → MatchResult line (λ text. end ≡ stop.Told 1 text) (λ _. end ≡ stop.Memory) → Unreads names (unread.Fault fault) end
fault_told names fault (Ok text) end is e = subst (Unreads names (unread.Fault fault)) (sym e) (refl, is)
fault_told names fault (Err x) end is e = subst (Unreads names (unread.Fault fault)) (sym e) tt

-- ---- what failed

pub unread_host : (names : List Name) (why : Unread) (end : Stop) → Unreads names why end → end ≡ stop.Host → why ≡ unread.Host
unread_host names (unread.Fault fault) end is host = absurd (subst (Unreads names (unread.Fault fault)) host is)
unread_host names (unread.Rejected text) end is host = absurd (let no : stop.Host ≡ stop.Told 8 text = sym host ∙ is in cc)
unread_host names unread.Host end is host = refl
unread_host names unread.Memory end is host = absurd (let no : stop.Host ≡ stop.Memory = sym host ∙ is in cc)

pub made_no_host : (stage : Stage) (sources : List (List ℕ)) (names : List Name) (why : Stop) → MakesModule stage sources names (Err why) → why ≡ stop.Host → ⊥
made_no_host stage sources names why made is = subst (λ (s : Stop). MakesModule stage sources names (Err s)) is made

-- ---- how far the steps have come

-- what came of a later step came of both
comes_later : (first then last : Target → ℕ) (job : Job) (end : Result (List ℕ) Stop) → NeverFall first then → Comes (Reaches then last job) job end → Comes (Reaches first last job) job end
comes_later first then last job (Ok text) up comes = comes
comes_later first then last job (Err (stop.Told status text)) up comes = comes
comes_later first then last job (Err stop.Host) up (keeps, (target, at, rose)) = (keeps, (target, at, later_rise first then last target up rose))
comes_later first then last job (Err stop.Memory) up comes = comes

ends_later : (IsIts : Job → Type 0) (first then last : Target → ℕ) (end : Result (List ℕ) Stop) → NeverFall first then → Ends IsIts then last end → Ends IsIts first last end
ends_later IsIts first then last end up (job, is, comes) = (job, is, comes_later first then last job end up comes)

module _ (some : SomeTaken) (files : Files) (stage : Stage) (names : List Name) where
  -- the module of the program was run
  pub by_valid : (sources : List (List ℕ)) (text : List ℕ) (targets : List Target) (faults faults' : Target → ℕ) (m : Module) (end : Result (List ℕ) Stop) → MakesModule stage sources names (Ok m)
      → run.Ends (λ one. IsTaken files text targets one (Ok m) None) faults faults' end → Ends (IsTextJob files stage names sources text targets) faults faults' end
  by_valid sources text targets faults faults' m end accepts (owed, is, comes) = (
    job_of owed,
    (Ok m, accepts, (owed, is, refl)),
    job_comes faults faults' owed end comes,
  )

  -- there is no such module
  pub by_refused : (sources : List (List ℕ)) (text : List ℕ) (targets : List Target) (faults faults' : Target → ℕ) (why : Stop) → MakesModule stage sources names (Err why)
      → Ends (IsTextJob files stage names sources text targets) faults faults' (Err why)
  by_refused sources text targets faults faults' (stop.Told status line) (fault, first, one, is) = (
    refused names targets fault,
    (Err fault, first, refl),
    record { ends = sym one; quiet = refl; says = sym is; keeps = refl; own = own_one status one },
  )
  by_refused sources text targets faults faults' stop.Memory made = let its = some_text some files stage names sources text targets in (its.0, its.1, its.2)
  by_refused sources text targets faults faults' stop.Host made = absurd made

  module _ (inputs : Name) (sources : List (List ℕ)) (targets : List Target) where
    abbrev IsNext : Job → Type 0
    IsNext job = IsInputsJob files stage names sources targets job (read_of MAX_MANIFEST_BYTES (get files inputs))

    pub text_read : (text : List ℕ) (first then last : Target → ℕ) (end : Result (List ℕ) Stop) → get files inputs ≡ Some text → length text ≤ MAX_MANIFEST_BYTES → NeverFall first then
        → Ends (IsTextJob files stage names sources text targets) then last end → Ends IsNext first last end
    text_read text first then last end found short up ends =
        ends_later IsNext first then last end up
        (subst (λ (r : Read). Ends (λ job. IsInputsJob files stage names sources targets job r) then last end) (sym (is_whole MAX_MANIFEST_BYTES (get files inputs) text found short)) ends)

    text_unread : (why : Ungiven) (faults faults' : Target → ℕ) → ReadsManifestTold files inputs (Err why) → (why ≡ ungiven.Host → Rose faults faults' (Reading inputs))
        → Contains targets (Reading inputs) → Ends IsNext faults faults' (Err (run.stopped why))
    text_unread (ungiven.Refused text) faults faults' (longer, is) rose at =
        subst (λ (r : Read). Ends (λ job. IsInputsJob files stage names sources targets job r) faults faults' (Err (stop.Told 7 text))) (sym (is_longer MAX_MANIFEST_BYTES (get files inputs) longer))
        (job_of (told 7 long_text targets), refl, record { ends = refl; quiet = refl; says = sym is; keeps = refl; own = own_status 7 (omega arith) })
    text_unread ungiven.Host faults faults' so rose at =
        let its = some_inputs some files stage names sources targets (read_of MAX_MANIFEST_BYTES (get files inputs)) in
        (its.0, its.1, (its.2, (Reading inputs, its.3 (Reading inputs) at, rose refl)))
    text_unread ungiven.Memory faults faults' so rose at =
        let its = some_inputs some files stage names sources targets (read_of MAX_MANIFEST_BYTES (get files inputs)) in
        (its.0, its.1, its.2)

    pub text_stopped : (why : Ungiven) (end : Stop) (faults faults' : Target → ℕ) → end ≡ run.stopped why → ReadsManifestTold files inputs (Err why)
        → (why ≡ ungiven.Host → Rose faults faults' (Reading inputs)) → Contains targets (Reading inputs) → Ends IsNext faults faults' (Err end)
    text_stopped why end faults faults' same so rose at = subst (λ (s : Stop). Ends IsNext faults faults' (Err s)) (sym same) (text_unread why faults faults' so rose at)

  module _ (inputs : Name) where
    abbrev pub IsIts : Job → Type 0
    IsIts job = IsRunJob stage inputs names files (reads files names) job (gather files 0 names)

    pub sources_read : (sources : List (List ℕ)) (first then last : Target → ℕ) (end : Result (List ℕ) Stop) → ReadsGathered (behind_sources [] (gather files 0 names)) (Ok sources) → NeverFall first then
        → Ends (IsNext inputs sources (reads files names ++ Reading inputs ∷ [])) then last end → Ends IsIts first last end
    sources_read sources first then last end read up ends =
        let gathered : gather files 0 names ≡ Sources sources = sym (behind_no_sources (gather files 0 names)) ∙ read in
        ends_later IsIts first then last end up
        (subst (λ (g : Gathered). Ends (λ job. IsRunJob stage inputs names files (reads files names) job g) then last end) (sym gathered) ends)

    memory : (faults faults' : Target → ℕ) → Ends IsIts faults faults' (Err stop.Memory)
    memory faults faults' = let its = some_run some files stage names inputs (reads files names) (gather files 0 names) in (its.0, its.1, its.2)

    pub sources_stopped : (why : Unread) (end : Stop) (faults faults' : Target → ℕ) → ReadsGathered (behind_sources [] (gather files 0 names)) (Err why) → Unreads names why end
        → (why ≡ unread.Host → (target : Target) × Contains (reads files names) target × Rose faults faults' target) → Ends IsIts faults faults' (Err end)
    sources_stopped (unread.Fault fault) (stop.Told status text) faults faults' (unit, long, is) (one, line) rose =
        let gathered : gather files 0 names ≡ TooLong unit = sym (behind_no_sources (gather files 0 names)) ∙ long in (
          refused names (reads files names) (fault_in unit E0900),
          subst (IsRunJob stage inputs names files (reads files names) (refused names (reads files names) (fault_in unit E0900))) (sym gathered) refl,
          record { ends = sym one; quiet = refl; says = sym (line ∙ ap (told_fault names) is); keeps = refl; own = own_one status one },
        )
    sources_stopped (unread.Fault fault) stop.Memory faults faults' read is rose = memory faults faults'
    sources_stopped (unread.Fault fault) stop.Host faults faults' read is rose = absurd is
    sources_stopped (unread.Rejected text) end faults faults' read is rose = absurd read
    sources_stopped unread.Host end faults faults' read is rose =
        let its = some_run some files stage names inputs (reads files names) (gather files 0 names) in
        let (target, at, rises) = rose refl in
        subst (λ (s : Stop). Ends IsIts faults faults' (Err s)) (sym is) (its.0, its.1, (its.2, (target, its.3 target at, rises)))
    sources_stopped unread.Memory end faults faults' read is rose = subst (λ (s : Stop). Ends IsIts faults faults' (Err s)) (sym is) (memory faults faults')

-- ---- what it may reach for

reads_named : (files : Files) (names : List Name) (target : Target) → Contains (reads files names) target → Contains (map Reading names) target
reads_named files [] target at = at
reads_named files (name ∷ names) target (zero, within, here) = (zero, omega arith, here)
reads_named files (name ∷ names) target (suc k, within, here) =
    let later = reads_named files names target (reached.kept (is_source (get files name)) (reads files names) target (k, omega (arith, within), here)) in
    (suc later.0, omega (arith, later.1), later.2)

module _ (stage : Stage) (inputs : Name) (names : List Name) where
  abbrev plan : Plan
  plan = Plan.Run stage inputs names

  second : Contains (targets_of plan) (Reading inputs)
  second = contains_behind (map Reading names) (Reading inputs ∷ Printing stream.Out ∷ []) (Reading inputs) (0, omega arith, refl)

  out : Contains (targets_of plan) (Printing stream.Out)
  out = contains_behind (map Reading names) (Reading inputs ∷ Printing stream.Out ∷ []) (Printing stream.Out) (1, omega arith, refl)

  module _ (files : Files) (job : Job) where
    abbrev May : Target → Type 0
    May target = MayReach plan (Some files) target

    abbrev Within : List Target → Type 0
    Within targets = (target : Target) → Contains targets target → May target

    by : (its : Job) → job ≡ its → Within its.targets → Within job.targets
    by its is within = subst (λ (j : Job). Within j.targets) (sym is) within

    sources_within : Within (reads files names)
    sources_within target at = inl (contains_front target (map Reading names) (Reading inputs ∷ Printing stream.Out ∷ []) (reads_named files names target at))

    all_within : Within (reads files names ++ Reading inputs ∷ [])
    all_within = reached.both May (inl out) (reads files names) (Reading inputs ∷ []) sources_within (reached.one_more May (inl out) (Reading inputs) [] (inl second) (reached.none May (inl out)))

    module_within : (text : List ℕ) (targets : List Target) (verdict : Checked Module) → get files inputs ≡ Some text → Within targets → IsModuleJob files names text targets job verdict → Within job.targets
    module_within text targets (Ok m) read within (owed, is, same) =
        by (job_of owed) same (reached.taken May (inl out) owed files inputs (λ target named. inr named) text targets m read within is)
    module_within text targets (Err fault) read within is = by (refused names targets fault) is within

    inputs_within : (sources : List (List ℕ)) (targets : List Target) (found : Read) → read_of MAX_MANIFEST_BYTES (get files inputs) ≡ found → Within targets
        → IsInputsJob files stage names sources targets job found → Within job.targets
    inputs_within sources targets Missing e within is = by (failed targets) is within
    inputs_within sources targets Longer e within is = by (job_of (told 7 long_text targets)) is within
    inputs_within sources targets (Whole text) e within (verdict, right, is) =
        module_within text targets verdict (done.whole_is MAX_MANIFEST_BYTES (get files inputs) text e) within is

    run_within : (gathered : Gathered) → IsRunJob stage inputs names files (reads files names) job gathered → Within job.targets
    run_within Absent is = by (failed (reads files names)) is sources_within
    run_within (TooLong unit) is = by (refused names (reads files names) (fault_in unit E0900)) is sources_within
    run_within (Sources sources) is = inputs_within sources (reads files names ++ Reading inputs ∷ []) (read_of MAX_MANIFEST_BYTES (get files inputs)) refl all_within is

  module _ (known : Option Files) (first then last : Target → ℕ) (end : Result (List ℕ) Stop) (up : NeverFall first then) (over : NeverFall then last)
      (told_by : (files : Files) → known ≡ Some files → Ends (λ job. IsJob plan files job) first then end)
      (failed_at : end ≡ Err stop.Host → (name : Name) × Rose first then (Reading name)) where
    abbrev Cause : Option Files → Type 0
    Cause files = (target : Target) × MayReach plan files target × Rose first last target

    by_job : (files : Files) → end ≡ Err stop.Host → Ends (λ job. IsJob plan files job) first then end → Cause (Some files)
    by_job files is (job, its, comes) =
        let reaches : (job.effect ≡ Effect.Keeps) × Reaches first then job = subst (Comes (Reaches first then job) job) is comes in
        let (target, at, rose) = reaches.1 in
        (target, run_within files job (gather files 0 names) its target at, earlier_rise first then last target rose over)

    before : end ≡ Err stop.Host → Cause known
    before is =
        elim known as (λ files. known ≡ files → Cause files) [
          | None ↦ λ e. let read = failed_at is in (Reading read.0, inr (read.0, refl), earlier_rise first then last (Reading read.0) read.1 over)
          | Some files ↦ λ e. by_job files is (told_by files e)
        ] refl

    pub run_cause : (out out' err err' : Option (List ℕ)) (status : ℕ) → HasOwn end → Finished end then last out out' err err' status → status ≡ 3 → Cause known
    run_cause out' out'' err err' status own ended three =
        elim (host_failed then last out' out'' err err' status end own ended three) [
          | inl is ↦ before is
          | inr rose ↦ printing known rose
        ]
      where
        printing : (files : Option Files) → Rose then last (Printing stream.Out) → Cause files
        printing files rose = (Printing stream.Out, inl out, later_rise first then last (Printing stream.Out) up rose)

-- ---- what status 0 says

module _ (stage : Stage) (inputs : Name) (names : List Name) (files : Files) (after : Option Files) (job : Job) (well : job.status ≡ 0) (left : after ≡ Some (effect_on job.effect files)) where
  status : {k : ℕ} (its : Job) → job ≡ its → its.status ≡ k → k ≡ 0
  status its is e = sym e ∙ sym (ap (λ (x : Job). x.status) is) ∙ well

  by_module : (sources : List (List ℕ)) (text : List ℕ) (targets : List Target) (verdict : Checked Module) → gather files 0 names ≡ Sources sources → get files inputs ≡ Some text → Judges V10 stage sources verdict
      → IsModuleJob files names text targets job verdict → Written (Plan.Run stage inputs names) files after
  by_module sources text targets (Ok m) gathered read right (owed, is, same) =
      let ran = done.taken owed (sym (ap (λ (j : Job). j.status) same) ∙ well) files inputs text read m targets is in (
        sources,
        m,
        ran.0,
        gathered,
        right,
        promised V10 stage sources m right,
        ran.1,
        left ∙ ap (λ (j : Job). Some (effect_on j.effect files)) same,
      )
  by_module sources text targets (Err fault) gathered read right is = absurd (let no : 1 ≡ 0 = status _ is refl in cc)

  by_inputs : (sources : List (List ℕ)) (targets : List Target) (found : Read) → gather files 0 names ≡ Sources sources → read_of MAX_MANIFEST_BYTES (get files inputs) ≡ found
      → IsInputsJob files stage names sources targets job found → Written (Plan.Run stage inputs names) files after
  by_inputs sources targets Missing gathered e is = absurd (let no : 3 ≡ 0 = status _ is refl in cc)
  by_inputs sources targets Longer gathered e is = absurd (let no : 7 ≡ 0 = status _ is refl in cc)
  by_inputs sources targets (Whole text) gathered e (verdict, right, is) =
      by_module sources text targets verdict gathered (done.whole_is MAX_MANIFEST_BYTES (get files inputs) text e) right is

  by_sources : (gathered : Gathered) → gather files 0 names ≡ gathered → IsRunJob stage inputs names files (reads files names) job gathered → Written (Plan.Run stage inputs names) files after
  by_sources Absent e is = absurd (let no : 3 ≡ 0 = status _ is refl in cc)
  by_sources (TooLong unit) e is = absurd (let no : 1 ≡ 0 = status _ is refl in cc)
  by_sources (Sources sources) e is = by_inputs sources _ (read_of MAX_MANIFEST_BYTES (get files inputs)) e refl is

  pub run_written : IsJob (Plan.Run stage inputs names) files job → Written (Plan.Run stage inputs names) files after
  run_written is = by_sources (gather files 0 names) refl is
