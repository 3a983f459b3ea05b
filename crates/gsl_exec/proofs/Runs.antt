-- How far the steps of a run have come with what is owed.
use Rattle.std.proofs.Common.{◌≡◌, ℕ, zero, suc, ◌<◌, ◌≤◌, cond, List, [], ◌∷◌, ◌++◌, length, Option, Some, None, Result, Ok, Err, refl, ap, sym, subst, ◌∙◌, arith, inl, inr}
use Rattle.std.specs.Prelude.{Contains, IsSomeAnd, map, MatchResult, IfOk, ◌≢◌}
use Rattle.std.specs.FinMap.{get}
use Rattle.std.proofs.lemmas.Bool.{lt-ltb, le-ltb}
use Rattle.gsl_base.specs.declared.input.Input.{Input}
use Rattle.gsl_base.specs.declared.input.InputRefusal.{InputRefusal}
use Rattle.gsl_base.specs.declared.input.Output.{Output}
use Rattle.gsl_host.specs.declared.target.Stream.TheVariants as stream
use Rattle.gsl_host.specs.declared.target.Target.{Target}
use Rattle.gsl_host.specs.declared.target.Target.TheVariants.{Reading, Printing}
use Rattle.gsl_host.specs.Outside.{Files, Name, NeverFall, Rose}
use Rattle.gsl_manifest.specs.declared.manifest.BufferLine.{BufferLine}
use Rattle.gsl_manifest.specs.declared.manifest.Manifest.{Manifest}
use Rattle.gsl_manifest.specs.Listing.{listing_of}
use Rattle.gsl_inputs.specs.Demands.{Met}
use Rattle.gsl_given.specs.declared.given.TheConstants.{MAX_MANIFEST_BYTES}
use Rattle.gsl_given.specs.declared.stop.Stop.{Stop as GivenStop}
use Rattle.gsl_given.specs.declared.stop.Stop.TheVariants as ungiven
use Rattle.gsl_given.specs.Given.{Answers, Got, IsNamed, given, names_of, push_names, reads as named_reads, ReadsManifestTold, Says as SaysGiven}
use Rattle.gsl_given.specs.Texts.{line_text, long_text, misfit_text}
use Rattle.gsl_words.specs.declared.module.Module.{Module}
use Rattle.gsl_machine.specs.Fits.{fits}
use Rattle.gsl_machine.specs.Machine.{after}
use Rattle.gsl_machine.specs.State.{Outcome, Ended, Going, Strayed, Stuck}
use Rattle.gsl_enact.specs.Came.{came, Enacts}
use Rattle.gsl_enact.specs.declared.enacting.Enacted.{Enacted}
use Rattle.gsl_enact.specs.declared.enacting.Enacted.TheVariants.{Came, Misfit}
use Rattle.gsl_enact_steps.specs.declared.step.Step.{Step}
use Rattle.gsl_enact_steps.specs.declared.step.Step.TheVariants as step
use Rattle.gsl_valid.specs.Valid.{Valid}
use Rattle.gsl_sound.specs.Sound.{IsNeverStuck}
use Rattle.gsl_exec.specs.declared.reading.TheConstants.{MAX_MODULE_BYTES}
use Rattle.gsl_exec.specs.declared.stop.Stop.{Stop}
use Rattle.gsl_exec.specs.declared.stop.Stop.TheVariants as stop
use Rattle.gsl_exec.specs.Owed.{Owed, told, listed, Read, Longer, Whole, read_of, IsCame, IsTested, IsGiven, IsSaid, IsTaken, IsJudged, IsBehind, IsRead, IsOwed}
use Rattle.gsl_exec.specs.Steps.{AreRead, Comes, Ends, HasStatus, JudgesBytes, NeverStuck, Reaches, ReadsModuleTold, Tells, stopped}
use Rattle.gsl_exec.specs.Texts.{going_text, strayed_text, module_long_text}
use Rattle.gsl_exec.proofs.Keeping.{contains_behind, some_came, some_given, some_taken, some_judged, some_behind, some_owed}

-- ---- ends

-- what holds where the host cannot fail holds where it can
comes_any : (Failing : Type 0) (owed : Owed) (end : Result (List ℕ) Stop) → Comes ⊥ owed end → Comes Failing owed end
comes_any Failing owed (Ok text) comes = comes
comes_any Failing owed (Err (stop.Told status text)) comes = comes
comes_any Failing owed (Err stop.Host) comes = absurd comes
comes_any Failing owed (Err stop.Memory) comes = comes

-- what came of a later step came of both
comes_later : (first then last : Target → ℕ) (owed : Owed) (end : Result (List ℕ) Stop) → NeverFall first then → Comes (Reaches then last owed) owed end → Comes (Reaches first last owed) owed end
comes_later first then last owed (Ok text) up comes = comes
comes_later first then last owed (Err (stop.Told status text)) up comes = comes
comes_later first then last owed (Err stop.Host) up (target, at, rose) = (target, at, omega (arith, up target, rose))
comes_later first then last owed (Err stop.Memory) up comes = comes

ends_later : (IsIts : Owed → Type 0) (first then last : Target → ℕ) (end : Result (List ℕ) Stop) → NeverFall first then → Ends IsIts then last end → Ends IsIts first last end
ends_later IsIts first then last end up (owed, is, comes) = (owed, is, comes_later first then last owed end up comes)

-- the same with another spelling of why a step stopped
pub by_stop : (IsIts : Owed → Type 0) (faults faults' : Target → ℕ) (a b : Stop) → a ≡ b → Ends IsIts faults faults' (Err b) → Ends IsIts faults faults' (Err a)
by_stop IsIts faults faults' a b is ends = subst (λ (s : Stop). Ends IsIts faults faults' (Err s)) (sym is) ends

tells : (status : ℕ) (text : List ℕ) (targets : List Target) (line : List ℕ) → 5 ≤ status → status ≤ 8 → line ≡ text → Tells (told status text targets) status line
tells status text targets line least most is = record { ends = refl; quiet = refl; says = sym is; least = least; most = most }

-- ---- what failed is the reading of a file

-- some name was read
abbrev pub Failed : (Target → ℕ) → (Target → ℕ) → Type 0
Failed faults faults' = (name : Name) × Rose faults faults' (Reading name)

of_reading : (target : Target) (faults faults' : Target → ℕ) (name : Name) → Reading name ≡ target → Rose faults faults' target → Failed faults faults'
of_reading target faults faults' name is rose = (name, subst (Rose faults faults') (sym is) rose)

pub read_name : (names : List Name) (target : Target) (faults faults' : Target → ℕ) → Contains (map Reading names) target → Rose faults faults' target → Failed faults faults'
read_name [] target faults faults' (k, within, here) rose = absurd (omega (arith, within))
read_name (name ∷ names) target faults faults' (zero, within, here) rose = of_reading target faults faults' name here rose
read_name (name ∷ names) target faults faults' (suc k, within, here) rose = read_name names target faults faults' (k, omega (arith, within), here) rose

read_line : (lines : List BufferLine) (target : Target) (faults faults' : Target → ℕ) → Contains (map (λ (line : BufferLine). Reading line.path) lines) target → Rose faults faults' target
    → Failed faults faults'
read_line [] target faults faults' (k, within, here) rose = absurd (omega (arith, within))
read_line (line ∷ lines) target faults faults' (zero, within, here) rose = of_reading target faults faults' line.path here rose
read_line (line ∷ lines) target faults faults' (suc k, within, here) rose = read_line lines target faults faults' (k, omega (arith, within), here) rose

pub named_name : (m : Manifest) (target : Target) (faults faults' : Target → ℕ) → IsNamed m target → Rose faults faults' target → Failed faults faults'
named_name m target faults faults' (inl at) rose = read_line m.buffers target faults faults' at rose
named_name m target faults faults' (inr at) rose = read_name (push_names m.push) target faults faults' at rose

pub stopped_host : (why : GivenStop) → ◌≡◌ {A = Result (List ℕ) Stop} (Err (stopped why)) (Err stop.Host) → why ≡ ungiven.Host
stopped_host ungiven.Host e = refl
stopped_host ungiven.Memory e = absurd (cc)
stopped_host (ungiven.Refused text) e = absurd (cc)

pub same_stop : (why : Stop) → ◌≡◌ {A = Result (List ℕ) Stop} (Err why) (Err stop.Host) → why ≡ stop.Host
same_stop why e = cc

-- what never fails did not fail
pub never_host : (owed : Owed) (end : Result (List ℕ) Stop) → Comes ⊥ owed end → end ≡ Err stop.Host → ⊥
never_host owed end comes is = subst (λ (e : Result (List ℕ) Stop). Comes ⊥ owed e) is comes

-- ---- statuses

pub comes_status : (Failing : Type 0) (owed : Owed) (end : Result (List ℕ) Stop) → Comes Failing owed end → HasStatus end
comes_status Failing owed (Ok text) comes = tt
comes_status Failing owed (Err (stop.Told status text)) comes = (comes.least, comes.most)
comes_status Failing owed (Err stop.Host) comes = tt
comes_status Failing owed (Err stop.Memory) comes = tt

stopped_status : (why : GivenStop) → HasStatus (Err (stopped why))
stopped_status (ungiven.Refused text) = (omega arith, omega arith)
stopped_status ungiven.Host = tt
stopped_status ungiven.Memory = tt

pub stop_status : (a : Stop) (why : GivenStop) → a ≡ stopped why → HasStatus (Err a)
stop_status a why is = subst (λ (s : Stop). HasStatus (Err s)) (sym is) (stopped_status why)

pub judged_status : (bytes : List ℕ) (why : Stop) → JudgesBytes bytes (Err why) → HasStatus (Err why)
judged_status bytes (stop.Told status text) (eight, its) = (omega (arith, eight), omega (arith, eight))
judged_status bytes stop.Host so = tt
judged_status bytes stop.Memory so = tt

-- ---- what a run came to

abbrev pub Shows : List Target → Outcome → Result (List ℕ) Stop → Type 0
Shows targets o end = (owed : Owed) × IsCame targets owed o × Comes ⊥ owed end

stuck_is : (o : Outcome) → o ≡ Stuck → step.Stuck ≡ came o
stuck_is o e = sym (ap came e)

-- memory was wanting
pub shows_memory : (targets : List Target) (s : Step) (o : Outcome) → s ≢ step.Stuck → s ≡ came o → Shows targets o (Err stop.Memory)
shows_memory targets s o never is = let its = some_came targets o (λ e. never (is ∙ ap came e)) in (its.0, its.1, tt)

pub shows_listing : (targets : List Target) (output : Output) (text : List ℕ) (o : Outcome) → step.Ended output ≡ came o → text ≡ listing_of output → Shows targets o (Ok text)
shows_listing targets output text (Ended other) is shown =
    let same : output ≡ other = cc in (
      listed (listing_of other) targets,
      refl,
      record { status = refl; out = sym (shown ∙ ap listing_of same); err = refl; reached = contains_behind targets (Printing stream.Out ∷ []) (Printing stream.Out) (0, omega arith, refl) },
    )
shows_listing targets output text (Going state) is shown = absurd (cc)
shows_listing targets output text (Strayed place) is shown = absurd (cc)
shows_listing targets output text Stuck is shown = absurd (cc)

pub shows_strayed : {E : Type 0} (targets : List Target) (at : ℕ) (line : Result (List ℕ) E) (end : Stop) (o : Outcome) → step.Strayed at ≡ came o → IfOk line (λ text. text ≡ strayed_text at)
    → MatchResult line (λ text. end ≡ stop.Told 6 text) (λ _. end ≡ stop.Memory) → Shows targets o (Err end)
shows_strayed targets at (Ok text) end (Strayed place) is line e =
    let same : at ≡ place = cc in
    subst (λ (s : Stop). Shows targets (Strayed place) (Err s)) (sym e)
    (told 6 (strayed_text place) targets, refl, tells 6 (strayed_text place) targets text (omega arith) (omega arith) (line ∙ ap strayed_text same))
shows_strayed targets at (Err x) end (Strayed place) is line e = subst (λ (s : Stop). Shows targets (Strayed place) (Err s)) (sym e) (told 6 (strayed_text place) targets, refl, tt)
shows_strayed targets at line end (Going state) is text e = absurd (cc)
shows_strayed targets at line end (Ended output) is text e = absurd (cc)
shows_strayed targets at line end Stuck is text e = absurd (cc)

pub shows_going : {E : Type 0} (targets : List Target) (line : Result (List ℕ) E) (end : Stop) (o : Outcome) → step.Going ≡ came o → IfOk line (λ text. text ≡ going_text)
    → MatchResult line (λ text. end ≡ stop.Told 5 text) (λ _. end ≡ stop.Memory) → Shows targets o (Err end)
shows_going targets (Ok text) end (Going state) is line e =
    subst (λ (s : Stop). Shows targets (Going state) (Err s)) (sym e)
    (told 5 going_text targets, refl, tells 5 going_text targets text (omega arith) (omega arith) line)
shows_going targets (Err x) end (Going state) is line e = subst (λ (s : Stop). Shows targets (Going state) (Err s)) (sym e) (told 5 going_text targets, refl, tt)
shows_going targets line end (Strayed place) is text e = absurd (cc)
shows_going targets line end (Ended output) is text e = absurd (cc)
shows_going targets line end Stuck is text e = absurd (cc)

-- ---- whether the input fits

abbrev pub Tests : List Target → Module → ℕ → Input → Met → Result (List ℕ) Stop → Type 0
Tests targets m steps input met end = (owed : Owed) × IsTested targets m steps input owed met × Comes ⊥ owed end

pub tests_misfit : {E : Type 0} (targets : List Target) (m : Module) (steps : ℕ) (input : Input) (met : Met) (refusal : InputRefusal) (line : Result (List ℕ) E) (end : Stop) → met ≡ Err refusal
    → IfOk line (λ text. text ≡ misfit_text refusal) → MatchResult line (λ text. end ≡ stop.Told 7 text) (λ _. end ≡ stop.Memory) → Tests targets m steps input met (Err end)
tests_misfit targets m steps input met refusal (Ok text) end is line e =
    subst (λ (x : Met). Tests targets m steps input x (Err end)) (sym is)
    (subst (λ (s : Stop). Tests targets m steps input (Err refusal) (Err s)) (sym e)
    (told 7 (misfit_text refusal) targets, refl, tells 7 (misfit_text refusal) targets text (omega arith) (omega arith) line))
tests_misfit targets m steps input met refusal (Err x) end is line e =
    subst (λ (x : Met). Tests targets m steps input x (Err end)) (sym is)
    (subst (λ (s : Stop). Tests targets m steps input (Err refusal) (Err s)) (sym e) (told 7 (misfit_text refusal) targets, refl, tt))

pub tests_shown : (targets : List Target) (m : Module) (steps : ℕ) (input : Input) (met : Met) (end : Result (List ℕ) Stop) → met ≡ Ok tt → Shows targets (after m steps input) end
    → Tests targets m steps input met end
tests_shown targets m steps input met end is shown = subst (λ (x : Met). Tests targets m steps input x end) (sym is) shown

pub never_came : (m : Module) (input : Input) (steps : ℕ) (s : Step) → IsNeverStuck m input → Valid m → fits m input ≡ Ok tt → s ≡ came (after m steps input) → s ≢ step.Stuck
never_came m input steps s never valid fit is e = none (after m steps input) (never valid fit steps) (sym e ∙ is)
  where
    none : (o : Outcome) → (o ≡ Stuck → ⊥) → step.Stuck ≡ came o → ⊥
    none (Going state) free same = absurd (cc)
    none (Ended output) free same = absurd (cc)
    none (Strayed place) free same = absurd (cc)
    none Stuck free same = free refl

pub tests_memory : (never : NeverStuck) (m : Module) → Valid m → (targets : List Target) (steps : ℕ) (input : Input) → Tests targets m steps input (fits m input) (Err stop.Memory)
tests_memory never m valid targets steps input = let its = some_given never m valid targets steps (Got input) in (its.0, its.1, tt)

-- what `enact` answers of a module that has another spelling
pub came_misfit : (m n : Module) (input : Input) (steps : ℕ) (e : Enacted) (refusal : InputRefusal) → n ≡ m → e ≡ Misfit refusal → Enacts n input steps e → fits m input ≡ Err refusal
came_misfit m n input steps e refusal same is answer =
    let of : Enacts n input steps (Misfit refusal) = subst (Enacts n input steps) is answer in
    subst (λ (x : Module). fits x input ≡ Err refusal) same of

pub came_to : (m n : Module) (input : Input) (steps : ℕ) (e : Enacted) (s : Step) → n ≡ m → e ≡ Came s → Enacts n input steps e
    → (fits m input ≡ Ok tt) × (s ≡ came (after m steps input))
came_to m n input steps e s same is answer =
    let of : Enacts n input steps (Came s) = subst (Enacts n input steps) is answer in
    subst (λ (x : Module). (fits x input ≡ Ok tt) × (s ≡ came (after x steps input))) same of

-- ---- on the input of a manifest

module _ (never : NeverStuck) (m : Module) (valid : Valid m) (files : Files) (targets : List Target) (said : Manifest) (faults faults' : Target → ℕ) where
  abbrev IsOn : Owed → Type 0
  IsOn owed = IsSaid files targets m owed (Ok said)

  abbrev reached : List Target
  reached = targets ++ named_reads files (names_of said)

  -- the input was found
  pub on_found : (input : Input) (end : Result (List ℕ) Stop) → given files said ≡ Got input → ((targets : List Target) → Tests targets m said.steps input (fits m input) end)
      → Ends IsOn faults faults' end
  on_found input end found tests =
      let its = tests reached in
      (its.0, subst (IsGiven reached m said.steps its.0) (sym found) its.1, comes_any _ its.0 end its.2)

  -- it was not
  pub on_stopped : (why : GivenStop) → Answers (given files said) (Err why)
      → (why ≡ ungiven.Host → (target : Target) × Contains (named_reads files (names_of said)) target × Rose faults faults' target) → Ends IsOn faults faults' (Err (stopped why))
  on_stopped (ungiven.Refused text) (line, long, is) rose =
      (told 7 (line_text line) reached, subst (IsGiven reached m said.steps (told 7 (line_text line) reached)) (sym long) refl, tells 7 (line_text line) reached text (omega arith) (omega arith) is)
  on_stopped ungiven.Host so rose =
      let its = some_given never m valid reached said.steps (given files said) in
      let (target, at, rises) = rose refl in
      (its.0, its.1, (target, its.2 target (contains_behind targets (named_reads files (names_of said)) target at), rises))
  on_stopped ungiven.Memory so rose = let its = some_given never m valid reached said.steps (given files said) in (its.0, its.1, tt)

-- ---- the manifest

module _ (read : AreRead) (never : NeverStuck) (files : Files) (text : List ℕ) (targets : List Target) (faults faults' : Target → ℕ) where
  abbrev IsModule : Module → Owed → Type 0
  IsModule m owed = IsTaken files text targets owed (Ok m) None

  pub by_said : (m : Module) (said : Manifest) (end : Result (List ℕ) Stop) → SaysGiven text (Ok said) → Ends (λ owed. IsSaid files targets m owed (Ok said)) faults faults' end
      → Ends (IsModule m) faults faults' end
  by_said m said end says (owed, is, comes) = (owed, (Ok said, says, is), comes)

  pub by_stopped : (m : Module) → Valid m → (why : GivenStop) → SaysGiven text (Err why) → Ends (IsModule m) faults faults' (Err (stopped why))
  by_stopped m valid (ungiven.Refused line) (at, breaks, is) =
      (told 7 (line_text at) targets, (Err at, breaks, refl), tells 7 (line_text at) targets line (omega arith) (omega arith) is)
  by_stopped m valid ungiven.Host says = absurd says
  by_stopped m valid ungiven.Memory says = let its = some_taken read never files text targets m valid in (its.0, its.1, tt)

  -- ---- the module's bytes

  pub judged_valid : (bytes : List ℕ) (m : Module) (end : Result (List ℕ) Stop) → JudgesBytes bytes (Ok m) → Ends (IsModule m) faults faults' end
      → Ends (IsJudged files bytes text targets) faults faults' end
  judged_valid bytes m end (judged, kept, valid) (owed, is, comes) =
      (owed, (Ok m, judged, subst (IsTaken files text targets owed (Ok m)) (sym kept) is), comes)

  pub judged_stopped : (bytes : List ℕ) (why : Stop) → JudgesBytes bytes (Err why) → Ends (IsJudged files bytes text targets) faults faults' (Err why)
  judged_stopped bytes (stop.Told status line) (eight, (verdict, judged, is)) = (
    told 8 line targets,
    (verdict, judged, subst (IsTaken files text targets (told 8 line targets) verdict) (sym is) refl),
    subst (λ (k : ℕ). Tells (told 8 line targets) k line) (sym eight) (tells 8 line targets line (omega arith) (omega arith) refl),
  )
  judged_stopped bytes stop.Memory so = let its = some_judged read never files bytes text targets in (its.0, its.1, tt)
  judged_stopped bytes stop.Host so = absurd so

-- ---- files

pub is_longer : (most : ℕ) (file : Option (List ℕ)) → IsSomeAnd file (λ bytes. most < length bytes) → read_of most file ≡ Longer
is_longer most None longer = absurd longer
is_longer most (Some bytes) longer = ap (λ b. cond b Longer (Whole bytes)) (lt-ltb most (length bytes) longer)

pub is_whole : (most : ℕ) (file : Option (List ℕ)) (bytes : List ℕ) → file ≡ Some bytes → length bytes ≤ most → read_of most file ≡ Whole bytes
is_whole most file bytes is within = ap (read_of most) is ∙ ap (λ b. cond b Longer (Whole bytes)) (le-ltb most (length bytes) within)

module _ (read : AreRead) (never : NeverStuck) (files : Files) (file inputs : Name) where
  abbrev both : List Target
  both = Reading file ∷ Reading inputs ∷ []

  abbrev IsNext : List ℕ → Owed → Type 0
  IsNext bytes owed = IsBehind files bytes both owed (read_of MAX_MANIFEST_BYTES (get files inputs))

  pub inputs_read : (bytes text : List ℕ) (first then last : Target → ℕ) (end : Result (List ℕ) Stop) → get files inputs ≡ Some text → length text ≤ MAX_MANIFEST_BYTES → NeverFall first then
      → ((targets : List Target) → Ends (IsJudged files bytes text targets) then last end) → Ends (IsNext bytes) first last end
  inputs_read bytes text first then last end found within up ends =
      ends_later _ first then last end up
      (subst (λ (r : Read). Ends (λ owed. IsBehind files bytes both owed r) then last end) (sym (is_whole MAX_MANIFEST_BYTES (get files inputs) text found within)) (ends both))

  pub inputs_stopped : (bytes : List ℕ) (why : GivenStop) (faults faults' : Target → ℕ) → ReadsManifestTold files inputs (Err why) → (why ≡ ungiven.Host → Rose faults faults' (Reading inputs))
      → Ends (IsNext bytes) faults faults' (Err (stopped why))
  inputs_stopped bytes (ungiven.Refused text) faults faults' (longer, is) rose =
      subst (λ (r : Read). Ends (λ owed. IsBehind files bytes both owed r) faults faults' (Err (stop.Told 7 text))) (sym (is_longer MAX_MANIFEST_BYTES (get files inputs) longer))
      (told 7 long_text both, refl, tells 7 long_text both text (omega arith) (omega arith) is)
  inputs_stopped bytes ungiven.Host faults faults' so rose =
      let its = some_behind read never files bytes both (read_of MAX_MANIFEST_BYTES (get files inputs)) in
      (its.0, its.1, (Reading inputs, its.2 (Reading inputs) (1, omega arith, refl), rose refl))
  inputs_stopped bytes ungiven.Memory faults faults' so rose =
      let its = some_behind read never files bytes both (read_of MAX_MANIFEST_BYTES (get files inputs)) in
      (its.0, its.1, tt)

  pub module_read : (bytes : List ℕ) (first then last : Target → ℕ) (end : Result (List ℕ) Stop) → get files file ≡ Some bytes → length bytes ≤ MAX_MODULE_BYTES → NeverFall first then
      → Ends (IsNext bytes) then last end → Ends (IsOwed file inputs files) first last end
  module_read bytes first then last end found within up ends =
      ends_later _ first then last end up
      (subst (λ (r : Read). Ends (λ owed. IsRead file inputs files owed r) then last end) (sym (is_whole MAX_MODULE_BYTES (get files file) bytes found within)) ends)

  pub module_stopped : (why : Stop) (faults faults' : Target → ℕ) → ReadsModuleTold files file (Err why) → (why ≡ stop.Host → Rose faults faults' (Reading file))
      → Ends (IsOwed file inputs files) faults faults' (Err why)
  module_stopped (stop.Told status text) faults faults' (longer, eight, is) rose =
      subst (λ (r : Read). Ends (λ owed. IsRead file inputs files owed r) faults faults' (Err (stop.Told status text))) (sym (is_longer MAX_MODULE_BYTES (get files file) longer)) (
        told 8 module_long_text (Reading file ∷ []),
        refl,
        subst (λ (k : ℕ). Tells (told 8 module_long_text (Reading file ∷ [])) k text) (sym eight)
            (tells 8 module_long_text (Reading file ∷ []) text (omega arith) (omega arith) is),
      )
  module_stopped stop.Host faults faults' so rose =
      let its = some_owed read never files file inputs in
      (its.0, its.1, (Reading file, its.2 (Reading file) (0, omega arith, refl), rose refl))
  module_stopped stop.Memory faults faults' so rose = let its = some_owed read never files file inputs in (its.0, its.1, tt)
