-- The job of a command, and how far its steps have come with it.
use Rattle.std.proofs.Common.{◌≡◌, ◌≢◌, ℕ, zero, suc, ◌+◌, ◌-◌, ◌<◌, ◌≤◌, get_or, drop, take, List, [], ◌∷◌, ◌++◌, length, Option, Some, None, Ok, Err, refl, ap, sym, subst, ◌∙◌, arith, inl, inr, ◌⊎◌, append_assoc, append-nil}
use Rattle.std.specs.Prelude.{Bool, not, if◌then◌else◌, map, Result, IsSomeAnd, OnOk, Contains}
use Rattle.std.specs.FinMap.{get, insert}
use Rattle.std.proofs.Math.Seq.{take-length}
use Rattle.std.proofs.lemmas.Bool.{lt-ltb, le-ltb, cond-true, cond-false}
use Rattle.gsl_base.specs.declared.stage.Stage.{Stage}
use Rattle.gsl_base.specs.declared.stage.Stage.TheVariants.{Vertex, Fragment, Compute}
use Rattle.gsl_base.specs.declared.fault.Code.TheVariants.{E0001, E0900}
use Rattle.gsl_base.specs.declared.fault.Fault.{Fault}
use Rattle.gsl_base.specs.Checked.{Checked}
use Rattle.gsl_host.specs.declared.target.Target.{Target}
use Rattle.gsl_host.specs.declared.target.Target.TheVariants.{Reading, Writing}
use Rattle.gsl_host.specs.Outside.{Files, KeepsOthers, Sets, Rose}
use Rattle.gsl_cmd.specs.declared.compiling.TheConstants.{MAX_SOURCE_BYTES}
use Rattle.gsl_cmd.specs.declared.stop.Stop.{Stop}
use Rattle.gsl_cmd.specs.declared.stop.Stop.TheVariants as stop
use Rattle.gsl_form.specs.declared.program.Program.{Program}
use Rattle.gsl_lowered.proofs.Deciding.{lowered_or_not}
use Rattle.gsl_lowered.specs.Sound.{IsLowered}
use Rattle.gsl_words.specs.declared.module.Module.{Module}
use Rattle.gsl_words.specs.declared.target.Target.{Target as Version}
use Rattle.gsl_words.specs.declared.target.Target.TheVariants.{V10, V13}
use Rattle.gsl_form.specs.Form.{Name}
use Rattle.gsl_tree.specs.declared.program.Program.{Program as Linked}
use Rattle.gsl_tree.specs.WellTyped.{program_lists}
use Rattle.gsl_form.specs.Reading.{program_of}
use Rattle.gsl_form.proofs.Units.{program_is, program_gives}
use Rattle.gsl_cmd.specs.Lowering.{module_of}
use Rattle.gsl_cmd.specs.Verdict.{Accepts, FaultWhere, HasModule, IsOfForm, Judges, fault_in, linked_of}
use Rattle.gsl_cmd.proofs.Compiled.{other_not}
use Rattle.gsl_plan.specs.Plan.{Plan}
use Rattle.gsl_cmd.specs.Texts.{told_fault}
use Rattle.gsl_cmd.specs.Job.{Job, Effect, IsCompileJob, Gathered, Sources, Absent, TooLong, gather, gather_one, is_source, reads, with_source, failed, refused, compiled}
use Rattle.gsl_cmd.specs.Performs.{KeepsAllBut}
use Rattle.gsl_cmd.specs.Command.{Did, Ended, ReadsGathered, ReadsSourceTold, CompilesSources, behind_sources}
use Rattle.gsl_cmd.specs.Targets.{targets_of}

-- The rules give some verdict.
stage_compute : (stage : Stage) → (stage ≡ Compute) ⊎ (stage ≢ Compute)
stage_compute Vertex = inr (λ e. cc)
stage_compute Fragment = inr (λ e. cc)
stage_compute Compute = inl refl

-- the linked program has one of the form, or none
formed : (version : Version) (stage : Stage) (linked : Linked) → ((p : Program) × IsOfForm version stage linked p) ⊎ ((p : Program) → IsOfForm version stage linked p → ⊥)
formed V13 stage linked = inr (λ p is. let other : ◌≡◌ {A = Version} V13 V10 = is.target_is in cc)
formed V10 stage linked =
    elim (stage_compute stage) [
      | inr other ↦ inr (λ p is. other is.stage_is)
      | inl compute ↦
          elim (program_of (program_lists linked)) as (λ found. program_of (program_lists linked) ≡ found → ((p : Program) × IsOfForm V10 stage linked p) ⊎ ((p : Program) → IsOfForm V10 stage linked p → ⊥)) [
            | None ↦ λ e. inr (λ p is. let there : program_of (program_lists linked) ≡ Some p = program_gives (program_lists linked) p is.spelled in cc)
            | Some p ↦ λ e. inl (p, record { target_is = refl; stage_is = compute; spelled = program_is (program_lists linked) p e })
          ] refl
    ]

-- it has a module, or none
module_or_not : (version : Version) (stage : Stage) (linked : Linked) → ((m : Module) × HasModule version stage linked m) ⊎ ((m : Module) → HasModule version stage linked m → ⊥)
module_or_not version stage linked =
    elim (formed version stage linked) [
      | inl (p, formed) ↦ inl (module_of p, inl (p, formed, refl))
      | inr none ↦
          elim (lowered_or_not version linked) [
            | inl (m, lowered) ↦ inl (m, inr (none, lowered))
            | inr never ↦ inr (other_not version stage linked none never)
          ]
    ]

judged : (version : Version) (stage : Stage) (sources : List (List ℕ)) (read : Checked Linked) → linked_of stage sources ≡ read → (verdict : Checked Module) × Judges version stage sources verdict
judged version stage sources (Err first) is = (Err first, subst (FaultWhere version stage first) (sym is) refl)
judged version stage sources (Ok linked) is =
    elim (module_or_not version stage linked) [
      | inl (m, has) ↦ (Ok m, record { linked = linked; read = is; has = has })
      | inr none ↦ (Err (fault_in 0 E0001), subst (FaultWhere version stage (fault_in 0 E0001)) (sym is) (refl, none))
    ]

pub some_verdict : (version : Version) (stage : Stage) (sources : List (List ℕ)) → (verdict : Checked Module) × Judges version stage sources verdict
some_verdict version stage sources = judged version stage sources (linked_of stage sources) refl

-- There is a job of `compile` over all files.
pub compile_job : (version : Version) (stage : Stage) (out : Name) (names : List Name) (targets : List Target) (gathered : Gathered) → (job : Job) × IsCompileJob version stage out names targets job gathered
compile_job version stage out names targets Absent = (failed targets, refl)
compile_job version stage out names targets (TooLong unit) = (refused names targets (fault_in unit E0900), refl)
compile_job version stage out names targets (Sources sources) =
    let verdict = some_verdict version stage sources in
    (compiled out names targets verdict.0, (verdict.0, verdict.1, refl))

-- Files that are as before keep all but what any effect writes.
pub keeps_same : (effect : Effect) (before : Files) (after : Option Files) → after ≡ Some before → KeepsAllBut effect before after
keeps_same Effect.Keeps before after same = same
keeps_same (Effect.Writes name bytes) before after same =
    subst (λ now. KeepsOthers (Some before) now name) (sym same) (λ q other. refl)

pub contains_front : {X : Type 0} (x : X) (xs ys : List X) → Contains xs x → Contains (xs ++ ys) x
contains_front x [] ys (k, within, here) = absurd (omega arith)
contains_front x (y ∷ xs) ys (zero, within, here) = (zero, omega arith, here)
contains_front x (y ∷ xs) ys (suc k, within, here) =
    let later = contains_front x xs ys (k, omega arith, here) in
    (suc later.0, omega (arith, later.1), later.2)

pub contains_last : {X : Type 0} (x : X) (xs : List X) → Contains (xs ++ x ∷ []) x
contains_last x [] = (0, omega arith, refl)
contains_last x (y ∷ xs) =
    let later = contains_last x xs in
    (suc later.0, omega (arith, later.1), later.2)

-- ---- what reading gathers

pub behind_no_sources : (g : Gathered) → behind_sources [] g ≡ g
behind_no_sources (Sources sources) = refl
behind_no_sources Absent = refl
behind_no_sources (TooLong unit) = refl

behind_one : (front : List (List ℕ)) (source : List ℕ) (g : Gathered) → behind_sources (front ++ source ∷ []) g ≡ behind_sources front (with_source source g)
behind_one front source (Sources sources) = ap Sources (append_assoc front (source ∷ []) sources)
behind_one front source Absent = refl
behind_one front source (TooLong unit) = refl

module _ (files : Files) (front : List (List ℕ)) (unit : ℕ) where
  -- no file is left
  pub gathered_none : ReadsGathered (behind_sources front (gather files unit [])) (Ok front)
  gathered_none = ap Sources (append-nil front)

  module _ (name : Name) (names : List Name) where
    found_short : (source : List ℕ) → get files name ≡ Some source → length source ≤ MAX_SOURCE_BYTES → gather files unit (name ∷ names) ≡ with_source source (gather files (unit + 1) names)
    found_short source read short = ap (λ found. gather_one unit found (gather files (unit + 1) names)) read ∙ cond-false _ _ _ (le-ltb _ _ short)

    found_long : (source : List ℕ) → get files name ≡ Some source → MAX_SOURCE_BYTES < length source → gather files unit (name ∷ names) ≡ TooLong unit
    found_long source read long = ap (λ found. gather_one unit found (gather files (unit + 1) names)) read ∙ cond-true _ _ _ (lt-ltb _ _ long)

    -- the first file was read
    pub gathered_more : (source : List ℕ) (end : Result (List (List ℕ)) Stop) → get files name ≡ Some source → length source ≤ MAX_SOURCE_BYTES
        → ReadsGathered (behind_sources (front ++ source ∷ []) (gather files (unit + 1) names)) end → ReadsGathered (behind_sources front (gather files unit (name ∷ names))) end
    gathered_more source end read short reads =
        subst (λ g. ReadsGathered g end) (behind_one front source (gather files (unit + 1) names) ∙ ap (behind_sources front) (sym (found_short source read short))) reads

    -- it was not
    pub gathered_end : (why : Stop) → ReadsSourceTold files unit name (Err why) → ReadsGathered (behind_sources front (gather files unit (name ∷ names))) (Err why)
    gathered_end stop.Memory told = tt
    gathered_end stop.Host told = tt
    gathered_end (stop.Rejected text) told = absurd told
    gathered_end (stop.Fault fault) told =
        elim (get files name) as (λ found. get files name ≡ found → IsSomeAnd found (λ bytes. MAX_SOURCE_BYTES < length bytes) → ReadsGathered (behind_sources front (gather files unit (name ∷ names))) (Err (stop.Fault fault))) [
          | None ↦ λ e long. absurd long
          | Some source ↦ λ e long. (unit, ap (behind_sources front) (found_long source e long), told.1)
        ] refl told.0

    -- what is read of the others is read of all
    pub reads_more : (source : List ℕ) (target : Target) → get files name ≡ Some source → length source ≤ MAX_SOURCE_BYTES → Contains (reads files names) target
        → Contains (reads files (name ∷ names)) target
    reads_more source target read short (k, within, at) =
        let all : Reading name ∷ reads files names ≡ reads files (name ∷ names) = sym (ap (λ found. Reading name ∷ (if is_source found then reads files names else [])) read
        ∙ ap (λ (long : Bool). Reading name ∷ (if not long then reads files names else [])) (le-ltb _ _ short)) in
        subst (λ (l : List Target). Contains l target) all (suc k, omega (arith, within), at)

    pub reads_first : Contains (reads files (name ∷ names)) (Reading name)
    reads_first = (0, omega arith, refl)

-- what is read behind the first file
rest_is : (names : List Name) → take (length names - 1) (drop 1 names) ≡ drop 1 names
rest_is [] = refl
rest_is (name ∷ names) = ap (λ n. take n names) (let one : suc (length names) - 1 ≡ length names = omega arith in one) ∙ take-length names

more_named : (names : List Name) (target : Target) → Contains (map Reading (drop 1 names)) target → Contains (map Reading names) target
more_named [] target at = at
more_named (name ∷ names) target (k, within, here) = (suc k, omega (arith, within), here)

pub rest_named : (names : List Name) (target : Target) → Contains (map Reading (take (length names - 1) (drop 1 names))) target → Contains (map Reading names) target
rest_named names target at = more_named names target (subst (λ (l : List Name). Contains (map Reading l) target) (rest_is names) at)

pub rest_read : (files : Files) (names : List Name) (name : Name) (source : List ℕ) (target : Target) → 1 ≤ length names → name ≡ get_or names 0 name → get files name ≡ Some source
    → length source ≤ MAX_SOURCE_BYTES → Contains (reads files (take (length names - 1) (drop 1 names))) target → Contains (reads files names) target
rest_read files [] name source target some first read short at = absurd (omega (arith, some))
rest_read files (n ∷ names) name source target some first read short at =
    reads_more files [] 0 n names source target (subst (λ (x : Name). get files x ≡ Some source) first read) short
    (subst (λ (l : List Name). Contains (reads files l) target) (rest_is (n ∷ names)) at)

-- want of memory is no failure of the host
pub memory_reads : (g : Gathered) (why : Stop) → why ≡ stop.Memory → ReadsGathered g (Err why)
memory_reads g why is = subst (λ (w : Stop). ReadsGathered g (Err w)) (sym is) tt

module _ (version : Version) (stage : Stage) (out : Name) (names : List Name) (files : Files) where
  abbrev plan : Plan
  plan = Plan.Compile version stage out names

  abbrev its_reads : List Target
  its_reads = reads files names

  abbrev IsIts : Job → Gathered → Type 0
  IsIts job gathered = IsCompileJob version stage out names its_reads job gathered

  -- the job reaches for what is read
  reads_in_targets : (target : Target) → Contains its_reads target → (gathered : Gathered) (job : Job) → IsIts job gathered → Contains job.targets target
  reads_in_targets target at Absent job is = subst (λ (j : Job). Contains j.targets target) (sym is) at
  reads_in_targets target at (TooLong unit) job is = subst (λ (j : Job). Contains j.targets target) (sym is) at
  reads_in_targets target at (Sources sources) job (Ok m, right, is) =
      subst (λ (j : Job). Contains j.targets target) (sym is) (contains_front target its_reads (Writing out ∷ []) at)
  reads_in_targets target at (Sources sources) job (Err fault, right, is) = subst (λ (j : Job). Contains j.targets target) (sym is) at

  pub gathered_all : (sources : List (List ℕ)) → ReadsGathered (behind_sources [] (gather files 0 names)) (Ok sources) → gather files 0 names ≡ Sources sources
  gathered_all sources is = sym (behind_no_sources (gather files 0 names)) ∙ is

  module _ (after : Option Files) (faults faults' : Target → ℕ) where
    abbrev Came : Result (Unit {0}) Stop → Type 0
    Came end = Ended plan names files after faults faults' end

    -- want of memory leaves some job
    pub ended_memory : after ≡ Some files → Came (Err stop.Memory)
    ended_memory same =
        let job = compile_job version stage out names its_reads (gather files 0 names) in
        record { job = job.0; is_job = job.1; out = λ none. absurd none; did = tt; kept = keeps_same job.0.effect files after same }

    long_ended : (fault : Fault) (unit : ℕ) → gather files 0 names ≡ TooLong unit → fault ≡ fault_in unit E0900 → after ≡ Some files → Came (Err (stop.Fault fault))
    long_ended fault unit long is same =
        let job = refused names its_reads (fault_in unit E0900) in
        record {
          job = job;
          is_job = subst (IsIts job) (sym long) refl;
          out = λ told. refl;
          did = (refl, ap (told_fault names) (sym is), refl, same);
          kept = same;
        }

    pub ended_read : (why : Stop) → ReadsGathered (behind_sources [] (gather files 0 names)) (Err why) → after ≡ Some files
        → (why ≡ stop.Host → (target : Target) × Contains its_reads target × Rose faults faults' target) → Came (Err why)
    ended_read stop.Memory told same rose = ended_memory same
    ended_read (stop.Rejected text) told same rose = absurd told
    ended_read stop.Host told same rose =
        let job = compile_job version stage out names its_reads (gather files 0 names) in
        let (target, at, rises) = rose refl in
        record {
          job = job.0;
          is_job = job.1;
          out = λ none. absurd none;
          did = (target, reads_in_targets target at _ job.0 job.1, rises);
          kept = keeps_same job.0.effect files after same;
        }
    ended_read (stop.Fault fault) (unit, long, is) same rose = long_ended fault unit (sym (behind_no_sources (gather files 0 names)) ∙ long) is same

    pub ended_compile : (sources : List (List ℕ)) (why : Stop) → gather files 0 names ≡ Sources sources → CompilesSources version stage sources (Err why) → after ≡ Some files → Came (Err why)
    ended_compile sources stop.Memory read answer same = ended_memory same
    ended_compile sources stop.Host read answer same = absurd answer
    ended_compile sources (stop.Rejected text) read answer same = absurd answer
    ended_compile sources (stop.Fault fault) read answer same =
        let job = refused names its_reads fault in
        record {
          job = job;
          is_job = subst (IsIts job) (sym read) (Err fault, answer, refl);
          out = λ told. refl;
          did = (refl, refl, refl, same);
          kept = same;
        }

    wrote : (sources : List (List ℕ)) (m : Module) (end : Result (Unit {0}) Stop) → gather files 0 names ≡ Sources sources → Accepts version stage sources m → KeepsOthers (Some files) after out
        → Did names (compiled out names its_reads (Ok m)) files after faults faults' end → Came end
    wrote sources m end read accepts others did =
        let job = compiled out names its_reads (Ok m) in
        record { job = job; is_job = subst (IsIts job) (sym read) (Ok m, accepts, refl); out = λ told. refl; did = did; kept = others }

    pub ended_write : (sources : List (List ℕ)) (bytes : List ℕ) (end : Result (Unit {0}) Stop) → gather files 0 names ≡ Sources sources → CompilesSources version stage sources (Ok bytes) →
        OnOk end (Sets (Some files) after out bytes) → KeepsOthers (Some files) after out → (end ≡ Err stop.Host → Rose faults faults' (Writing out)) →
        ((fault : Fault) → end ≡ Err (stop.Fault fault) → ⊥) → ((text : List ℕ) → end ≡ Err (stop.Rejected text) → ⊥) → Came end
    ended_write sources bytes (Ok done) read (m, accepts, is, promised) sets others rose sound quiet =
        wrote sources m (Ok done) read accepts others (refl, refl, sets ∙ ap (λ b. Some (insert files out b)) is)
    ended_write sources bytes (Err stop.Host) read (m, accepts, is, promised) sets others rose sound quiet =
        wrote sources m (Err stop.Host) read accepts others (Writing out, contains_last (Writing out) its_reads, rose refl)
    ended_write sources bytes (Err stop.Memory) read (m, accepts, is, promised) sets others rose sound quiet =
        wrote sources m (Err stop.Memory) read accepts others tt
    ended_write sources bytes (Err (stop.Fault fault)) read (m, accepts, is, promised) sets others rose sound quiet = absurd (sound fault refl)
    ended_write sources bytes (Err (stop.Rejected text)) read (m, accepts, is, promised) sets others rose sound quiet = absurd (quiet text refl)

-- what the command reaches for

pub read_target : (version : Version) (stage : Stage) (out : Name) (names : List Name) (target : Target) → Contains (map Reading names) target → Contains (targets_of (Plan.Compile version stage out names)) target
read_target version stage out names target at = contains_front target (map Reading names) (Writing out ∷ []) at

pub write_target : (version : Version) (stage : Stage) (out : Name) (names : List Name) → Contains (targets_of (Plan.Compile version stage out names)) (Writing out)
write_target version stage out names = contains_last (Writing out) (map Reading names)
