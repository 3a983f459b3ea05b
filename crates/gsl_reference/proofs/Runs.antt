-- How far the steps of a run have come with its job.
use Rattle.std.proofs.Common.{◌≡◌, ℕ, zero, suc, ◌<◌, ◌≤◌, cond, List, [], ◌∷◌, ◌++◌, length, Option, Some, None, Result, Ok, Err, refl, ap, sym, subst, ◌∙◌, arith, inl, inr}
use Rattle.std.specs.Prelude.{Contains, IsSomeAnd, map}
use Rattle.std.specs.FinMap.{get}
use Rattle.std.proofs.lemmas.Bool.{lt-ltb, le-ltb}
use Rattle.gsl_base.specs.declared.input.Input.{Input}
use Rattle.gsl_base.specs.Checked.{Checked}
use Rattle.gsl_host.specs.declared.target.Target.{Target}
use Rattle.gsl_host.specs.declared.target.Target.TheVariants.{Reading}
use Rattle.gsl_host.specs.Outside.{Files, Name, NeverFall, Rose}
use Rattle.gsl_manifest.specs.declared.manifest.BufferLine.{BufferLine}
use Rattle.gsl_manifest.specs.declared.manifest.Manifest.{Manifest}
use Rattle.gsl_given.specs.declared.given.TheConstants.{MAX_MANIFEST_BYTES}
use Rattle.gsl_given.specs.declared.stop.Stop.{Stop as GivenStop}
use Rattle.gsl_given.specs.declared.stop.Stop.TheVariants as ungiven
use Rattle.gsl_given.specs.Given.{Answers, Got, TooLong, IsNamed, given, names_of, push_names, reads as named_reads, ReadsManifestTold, Says as SaysGiven}
use Rattle.gsl_tree.specs.declared.program.Program.{Program}
use Rattle.gsl_meaning.specs.Fits.{fits}
use Rattle.gsl_cmd.specs.Job.{Job, Gathered, Sources, gather, reads}
use Rattle.gsl_cmd.specs.Verdict.{linked_of}
use Rattle.gsl_cmd.proofs.Jobs.{contains_last}
use Rattle.gsl_cmd.proofs.Streams.{later_rise}
use Rattle.gsl_reference.specs.declared.stop.Stop.{Stop}
use Rattle.gsl_reference.specs.declared.stop.Stop.TheVariants as stop
use Rattle.gsl_reference.specs.Asked.{Asked}
use Rattle.gsl_reference.specs.Owed.{AreRead, run_if, run_on, run_by, IsProgramJob, Manifested, Longer, Whole, manifested, IsInputsJob, IsBehindSources, IsSourcesJob, IsJob}
use Rattle.gsl_reference.specs.Steps.{Comes, Ends, Makes, Reaches, ReadsSources, stopped}
use Rattle.gsl_reference.proofs.Keeping.{keeps_on, some_program, some_inputs, some_job}

-- what holds where the host cannot fail holds where it can
comes_any : (Failing : Type 0) (job : Job) (end : Result (List ℕ) Stop) → Comes ⊥ job end → Comes Failing job end
comes_any Failing job (Ok text) comes = comes
comes_any Failing job (Err (stop.Fault text)) comes = comes
comes_any Failing job (Err stop.Going) comes = comes
comes_any Failing job (Err stop.Strayed) comes = comes
comes_any Failing job (Err (stop.Input text)) comes = comes
comes_any Failing job (Err stop.Host) comes = absurd comes.1
comes_any Failing job (Err stop.Memory) comes = comes

-- what came of a later step came of both
comes_later : (first then last : Target → ℕ) (job : Job) (end : Result (List ℕ) Stop) → NeverFall first then → Comes (Reaches then last job) job end → Comes (Reaches first last job) job end
comes_later first then last job (Ok text) up comes = comes
comes_later first then last job (Err (stop.Fault text)) up comes = comes
comes_later first then last job (Err stop.Going) up comes = comes
comes_later first then last job (Err stop.Strayed) up comes = comes
comes_later first then last job (Err (stop.Input text)) up comes = comes
comes_later first then last job (Err stop.Host) up (keeps, (target, at, rose)) = (keeps, (target, at, later_rise first then last target up rose))
comes_later first then last job (Err stop.Memory) up comes = comes

ends_later : (IsIts : Job → Type 0) (first then last : Target → ℕ) (end : Result (List ℕ) Stop) → NeverFall first then → Ends IsIts then last end → Ends IsIts first last end
ends_later IsIts first then last end up (job, is, comes) = (job, is, comes_later first then last job end up comes)

-- the same with another spelling of why a step stopped
pub by_stop : (IsIts : Job → Type 0) (faults faults' : Target → ℕ) (a b : Stop) → a ≡ b → Ends IsIts faults faults' (Err b) → Ends IsIts faults faults' (Err a)
by_stop IsIts faults faults' a b is ends = subst (λ (s : Stop). Ends IsIts faults faults' (Err s)) (sym is) ends

-- ---- what failed is the reading of a file

-- some name was read
abbrev pub Failed : (Target → ℕ) → (Target → ℕ) → Type 0
Failed faults faults' = (name : Name) × Rose faults faults' (Reading name)

of_reading : (target : Target) (faults faults' : Target → ℕ) (name : Name) → Reading name ≡ target → Rose faults faults' target → Failed faults faults'
of_reading target faults faults' name is rose = (name, subst (Rose faults faults') (sym is) rose)

pub read_name : (names : List Name) (target : Target) (faults faults' : Target → ℕ) → Contains (map Reading names) target → Rose faults faults' target → Failed faults faults'
read_name [] target faults faults' (k, within, here) rose = absurd (omega (arith, within))
read_name (name ∷ names) target faults faults' (zero, within, here) rose = of_reading target faults faults' name here rose
read_name (name ∷ names) target faults faults' (suc k, within, here) rose = read_name names target faults faults' (k, omega (arith, within), here) rose

read_line : (lines : List BufferLine) (target : Target) (faults faults' : Target → ℕ) → Contains (map (λ (line : BufferLine). Reading line.path) lines) target → Rose faults faults' target
    → Failed faults faults'
read_line [] target faults faults' (k, within, here) rose = absurd (omega (arith, within))
read_line (line ∷ lines) target faults faults' (zero, within, here) rose = of_reading target faults faults' line.path here rose
read_line (line ∷ lines) target faults faults' (suc k, within, here) rose = read_line lines target faults faults' (k, omega (arith, within), here) rose

pub named_name : (m : Manifest) (target : Target) (faults faults' : Target → ℕ) → IsNamed m target → Rose faults faults' target → Failed faults faults'
named_name m target faults faults' (inl at) rose = read_line m.buffers target faults faults' at rose
named_name m target faults faults' (inr at) rose = read_name (push_names m.push) target faults faults' at rose

pub stopped_host : (why : GivenStop) → ◌≡◌ {A = Result (List ℕ) Stop} (Err (stopped why)) (Err stop.Host) → why ≡ ungiven.Host
stopped_host ungiven.Host e = refl
stopped_host ungiven.Memory e = absurd (cc)
stopped_host (ungiven.Refused text) e = absurd (cc)

pub same_stop : (why : Stop) → ◌≡◌ {A = Result (List ℕ) Stop} (Err why) (Err stop.Host) → why ≡ stop.Host
same_stop why e = cc

-- what never fails did not fail
pub never_host : (job : Job) (end : Result (List ℕ) Stop) → Comes ⊥ job end → end ≡ Err stop.Host → ⊥
never_host job end comes is = let failing : Comes ⊥ job (Err stop.Host) = subst (λ (e : Result (List ℕ) Stop). Comes ⊥ job e) is comes in failing.1

-- ---- on the input of a manifest

module _ (files : Files) (targets : List Target) (p : Program) (m : Manifest) (faults faults' : Target → ℕ) where
  abbrev IsOn : Job → Type 0
  IsOn job = job ≡ run_by files targets p (Ok m)

  abbrev reached : List Target
  reached = targets ++ named_reads files (names_of m)

  -- the input was found
  pub on_found : (input : Input) (end : Result (List ℕ) Stop) → given files m ≡ Got input → ((targets : List Target) → Comes ⊥ (run_if targets p m.steps input (fits p input)) end)
      → Ends IsOn faults faults' end
  on_found input end found comes =
      (run_if reached p m.steps input (fits p input), ap (run_on reached p m.steps) (sym found), comes_any _ _ end (comes reached))

  contains_behind : {X : Type 0} (xs ys : List X) (x : X) → Contains ys x → Contains (xs ++ ys) x
  contains_behind [] ys x at = at
  contains_behind (y ∷ xs) ys x at =
      let later = contains_behind xs ys x at in
      (suc later.0, omega (arith, later.1), later.2)

  -- it was not
  pub on_stopped : (why : GivenStop) → Answers (given files m) (Err why)
      → (why ≡ ungiven.Host → (target : Target) × Contains (named_reads files (names_of m)) target × Rose faults faults' target) → Ends IsOn faults faults' (Err (stopped why))
  on_stopped (ungiven.Refused text) (line, long, said) rose =
      (run_on reached p m.steps (TooLong line), ap (run_on reached p m.steps) (sym long), (refl, refl, sym said, refl))
  on_stopped ungiven.Host told rose =
      let its = keeps_on reached p m.steps (given files m) in
      let (target, at, rises) = rose refl in
      (run_on reached p m.steps (given files m), refl, (its.effect, (target, its.reached target (contains_behind targets (named_reads files (names_of m)) target at), rises)))
  on_stopped ungiven.Memory told rose = (run_on reached p m.steps (given files m), refl, (keeps_on reached p m.steps (given files m)).effect)

-- ---- the manifest

module _ (read : AreRead) (files : Files) (names : List Name) (targets : List Target) (bytes : List ℕ) (faults faults' : Target → ℕ) where
  abbrev IsProgram : Checked Program → Job → Type 0
  IsProgram made job = IsProgramJob files names bytes targets job made

  pub by_said : (p : Program) (m : Manifest) (end : Result (List ℕ) Stop) → SaysGiven bytes (Ok m) → Ends (λ job. job ≡ run_by files targets p (Ok m)) faults faults' end
      → Ends (IsProgram (Ok p)) faults faults' end
  by_said p m end says (job, is, comes) = (job, (Ok m, says, is), comes)

  pub by_stopped : (p : Program) (why : GivenStop) → SaysGiven bytes (Err why) → Ends (IsProgram (Ok p)) faults faults' (Err (stopped why))
  by_stopped p (ungiven.Refused text) (line, breaks, said) = (run_by files targets p (Err line), (Err line, breaks, refl), (refl, refl, sym said, refl))
  by_stopped p ungiven.Host says = absurd says
  by_stopped p ungiven.Memory says = let its = some_program read files names targets bytes (Ok p) in (its.0, its.1, its.2.effect)

  -- ---- the program

  pub program_made : (made : Checked Program) (p : Program) (end : Result (List ℕ) Stop) → made ≡ Ok p → Ends (λ job. IsProgramJob files [] bytes targets job (Ok p)) faults faults' end
      → Ends (IsProgram made) faults faults' end
  program_made made p end is ends = subst (λ (c : Checked Program). Ends (IsProgram c) faults faults' end) (sym is) ends

  pub program_stopped : (made : Checked Program) (why : Stop) → Makes names made (Err why) → Ends (IsProgram made) faults faults' (Err why)
  program_stopped made (stop.Fault text) (fault, is, said) =
      subst (λ (c : Checked Program). Ends (IsProgram c) faults faults' (Err (stop.Fault text))) (sym is) (_, refl, (refl, refl, sym said, refl))
  program_stopped made stop.Memory told = let its = some_program read files names targets bytes made in (its.0, its.1, its.2.effect)
  program_stopped made stop.Going told = absurd told
  program_stopped made stop.Strayed told = absurd told
  program_stopped made (stop.Input text) told = absurd told
  program_stopped made stop.Host told = absurd told

-- ---- the manifest's file

is_longer : (file : Option (List ℕ)) → IsSomeAnd file (λ bytes. MAX_MANIFEST_BYTES < length bytes) → manifested file ≡ Longer
is_longer None longer = absurd longer
is_longer (Some bytes) longer = ap (λ b. cond b Longer (Whole bytes)) (lt-ltb MAX_MANIFEST_BYTES (length bytes) longer)

is_whole : (file : Option (List ℕ)) (bytes : List ℕ) → file ≡ Some bytes → length bytes ≤ MAX_MANIFEST_BYTES → manifested file ≡ Whole bytes
is_whole file bytes is within = ap manifested is ∙ ap (λ b. cond b Longer (Whole bytes)) (le-ltb MAX_MANIFEST_BYTES (length bytes) within)

module _ (reading : AreRead) (asked : Asked) (files : Files) (sources : List (List ℕ)) (targets : List Target) where
  abbrev behind : List Target
  behind = targets ++ Reading asked.inputs ∷ []

  pub inputs_read : (bytes : List ℕ) (first then last : Target → ℕ) (end : Result (List ℕ) Stop) → get files asked.inputs ≡ Some bytes → length bytes ≤ MAX_MANIFEST_BYTES → NeverFall first then
      → ((targets : List Target) → Ends (λ job. IsProgramJob files asked.sources bytes targets job (linked_of asked.stage sources)) then last end)
      → Ends (IsBehindSources asked files sources targets) first last end
  inputs_read bytes first then last end read within up ends =
      ends_later _ first then last end up
      (subst (λ (found : Manifested). Ends (λ job. IsInputsJob files asked.stage asked.sources sources behind job found) then last end)
      (sym (is_whole (get files asked.inputs) bytes read within)) (ends behind))

  pub inputs_stopped : (why : GivenStop) (faults faults' : Target → ℕ) → ReadsManifestTold files asked.inputs (Err why) → (why ≡ ungiven.Host → Rose faults faults' (Reading asked.inputs))
      → Ends (IsBehindSources asked files sources targets) faults faults' (Err (stopped why))
  inputs_stopped (ungiven.Refused text) faults faults' (longer, said) rose =
      subst (λ (found : Manifested). Ends (λ job. IsInputsJob files asked.stage asked.sources sources behind job found) faults faults' (Err (stop.Input text)))
      (sym (is_longer (get files asked.inputs) longer)) (_, refl, (refl, refl, sym said, refl))
  inputs_stopped ungiven.Host faults faults' told rose =
      let its = some_inputs reading files asked.sources behind asked.stage sources (manifested (get files asked.inputs)) in
      (its.0, its.1, (its.2.effect, (Reading asked.inputs, its.2.reached (Reading asked.inputs) (contains_last (Reading asked.inputs) targets), rose refl)))
  inputs_stopped ungiven.Memory faults faults' told rose =
      let its = some_inputs reading files asked.sources behind asked.stage sources (manifested (get files asked.inputs)) in
      (its.0, its.1, its.2.effect)

-- ---- the source files

module _ (reading : AreRead) (asked : Asked) (files : Files) where
  abbrev its_reads : List Target
  its_reads = reads files asked.sources

  pub sources_read : (sources : List (List ℕ)) (first then last : Target → ℕ) (end : Result (List ℕ) Stop) → gather files 0 asked.sources ≡ Sources sources → NeverFall first then
      → ((targets : List Target) → Ends (IsBehindSources asked files sources targets) then last end) → Ends (IsJob asked files) first last end
  sources_read sources first then last end read up ends =
      ends_later _ first then last end up
      (subst (λ (gathered : Gathered). Ends (λ job. IsSourcesJob asked files its_reads job gathered) then last end) (sym read) (ends its_reads))

  pub sources_stopped : (why : Stop) (faults faults' : Target → ℕ) → ReadsSources asked.sources (gather files 0 asked.sources) (Err why)
      → (why ≡ stop.Host → (target : Target) × Contains its_reads target × Rose faults faults' target) → Ends (IsJob asked files) faults faults' (Err why)
  sources_stopped (stop.Fault text) faults faults' (unit, long, said) rose =
      subst (λ (gathered : Gathered). Ends (λ job. IsSourcesJob asked files its_reads job gathered) faults faults' (Err (stop.Fault text))) (sym long) (_, refl, (refl, refl, sym said, refl))
  sources_stopped stop.Host faults faults' told rose =
      let its = some_job reading asked files in
      let (target, at, rises) = rose refl in
      (its.0, its.1, (its.2.effect, (target, its.2.reached target at, rises)))
  sources_stopped stop.Memory faults faults' told rose = let its = some_job reading asked files in (its.0, its.1, its.2.effect)
  sources_stopped stop.Going faults faults' told rose = absurd told
  sources_stopped stop.Strayed faults faults' told rose = absurd told
  sources_stopped (stop.Input text) faults faults' told rose = absurd told
