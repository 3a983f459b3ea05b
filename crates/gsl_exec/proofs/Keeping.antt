-- Something is owed at each step of a run, and it reaches for what was reached for before.
use Rattle.std.proofs.Common.{◌≡◌, ℕ, zero, suc, List, [], ◌∷◌, ◌++◌, Option, Some, None, Result, Ok, Err, refl, arith}
use Rattle.std.specs.Prelude.{Contains}
use Rattle.std.specs.FinMap.{get}
use Rattle.gsl_base.specs.declared.input.Input.{Input}
use Rattle.gsl_host.specs.declared.target.Stream.TheVariants as stream
use Rattle.gsl_host.specs.declared.target.Target.{Target}
use Rattle.gsl_host.specs.declared.target.Target.TheVariants.{Reading, Printing}
use Rattle.gsl_host.specs.Outside.{Files, Name}
use Rattle.gsl_manifest.specs.declared.manifest.Manifest.{Manifest}
use Rattle.gsl_manifest.specs.Listing.{listing_of}
use Rattle.gsl_inputs.specs.Demands.{Met}
use Rattle.gsl_given.specs.declared.given.TheConstants.{MAX_MANIFEST_BYTES}
use Rattle.gsl_given.specs.Given.{Found, Got, Absent, TooLong, given, names_of, reads as named_reads}
use Rattle.gsl_given.specs.Texts.{line_text, long_text, misfit_text}
use Rattle.gsl_words.specs.declared.fault.WordFault.{WordFault}
use Rattle.gsl_words.specs.declared.module.Module.{Module}
use Rattle.gsl_machine.specs.Fits.{fits}
use Rattle.gsl_machine.specs.Machine.{after}
use Rattle.gsl_machine.specs.State.{Outcome, Ended, Going, Strayed, Stuck}
use Rattle.gsl_valid.specs.Valid.{Valid}
use Rattle.gsl_exec.specs.declared.reading.TheConstants.{MAX_MODULE_BYTES}
use Rattle.gsl_exec.specs.Judged.{JudgesFile, refusal_of, refused_module}
use Rattle.gsl_exec.specs.Owed.{Owed, told, failed, listed, Read, Missing, Longer, Whole, read_of, IsCame, IsTested, IsGiven, IsSaid, IsTaken, IsJudged, IsBehind, IsRead, IsOwed}
use Rattle.gsl_exec.specs.Steps.{AreRead, NeverStuck}
use Rattle.gsl_exec.specs.Texts.{going_text, strayed_text, module_long_text}
use Rattle.gsl_exec.proofs.Verdicts.{is_valid, judged_file}

contains_front : {X : Type 0} (x : X) (xs ys : List X) → Contains xs x → Contains (xs ++ ys) x
contains_front x [] ys (k, within, here) = absurd (omega (arith, within))
contains_front x (y ∷ xs) ys (zero, within, here) = (zero, omega arith, here)
contains_front x (y ∷ xs) ys (suc k, within, here) =
    let later = contains_front x xs ys (k, omega (arith, within), here) in
    (suc later.0, omega (arith, later.1), later.2)

pub contains_behind : {X : Type 0} (xs ys : List X) (x : X) → Contains ys x → Contains (xs ++ ys) x
contains_behind [] ys x at = at
contains_behind (y ∷ xs) ys x at =
    let later = contains_behind xs ys x at in
    (suc later.0, omega (arith, later.1), later.2)

-- The targets are reached for.
abbrev pub Keeps : List Target → Owed → Type 0
Keeps targets owed = (target : Target) → Contains targets target → Contains owed.targets target

-- So much is owed, and these are reached for.
abbrev pub Some_ : (Owed → Type 0) → List Target → Type 0
Some_ IsIts targets = (owed : Owed) × IsIts owed × Keeps targets owed

some_told : (status : ℕ) (text : List ℕ) (targets : List Target) → Some_ (λ owed. owed ≡ told status text targets) targets
some_told status text targets = (told status text targets, refl, λ target at. at)

pub some_came : (targets : List Target) (o : Outcome) → (o ≡ Stuck → ⊥) → Some_ (λ owed. IsCame targets owed o) targets
some_came targets (Ended output) never = (listed (listing_of output) targets, refl, λ target at. contains_front target targets (Printing stream.Out ∷ []) at)
some_came targets (Going state) never = some_told 5 going_text targets
some_came targets (Strayed place) never = some_told 6 (strayed_text place) targets
some_came targets Stuck never = absurd (never refl)

some_tested : (targets : List Target) (m : Module) (steps : ℕ) (input : Input) (met : Met) → (met ≡ Ok tt → after m steps input ≡ Stuck → ⊥)
    → Some_ (λ owed. IsTested targets m steps input owed met) targets
some_tested targets m steps input (Ok fitting) never = some_came targets (after m steps input) (never refl)
some_tested targets m steps input (Err refusal) never = some_told 7 (misfit_text refusal) targets

module _ (never : NeverStuck) (m : Module) (valid : Valid m) where
  pub some_given : (targets : List Target) (steps : ℕ) (found : Found Input) → Some_ (λ owed. IsGiven targets m steps owed found) targets
  some_given targets steps (Got input) = some_tested targets m steps input (fits m input) (λ fit. never m input valid fit steps)
  some_given targets steps Absent = (failed targets, refl, λ target at. at)
  some_given targets steps (TooLong line) = some_told 7 (line_text line) targets

  pub some_said : (files : Files) (targets : List Target) (said : Result Manifest ℕ) → Some_ (λ owed. IsSaid files targets m owed said) targets
  some_said files targets (Ok said) =
      let its = some_given (targets ++ named_reads files (names_of said)) said.steps (given files said) in
      (its.0, its.1, λ target at. its.2 target (contains_front target targets (named_reads files (names_of said)) at))
  some_said files targets (Err line) = some_told 7 (line_text line) targets

module _ (read : AreRead) (never : NeverStuck) (files : Files) where
  pub some_taken : (text : List ℕ) (targets : List Target) (m : Module) → Valid m → Some_ (λ owed. IsTaken files text targets owed (Ok m) None) targets
  some_taken text targets m valid =
      let said = read text in
      let its = some_said never m valid files targets said.0 in
      (its.0, (said.0, said.1, its.1), its.2)

  some_verdict : (bytes text : List ℕ) (targets : List Target) (m : Module) (refusal : Option (List ℕ)) → JudgesFile bytes (Ok m) → refused_module m ≡ refusal
      → Some_ (λ owed. IsTaken files text targets owed (Ok m) refusal) targets
  some_verdict bytes text targets m (Some line) judged is = some_told 8 line targets
  some_verdict bytes text targets m None judged is = some_taken text targets m (is_valid bytes m judged is)

  some_refused : (bytes text : List ℕ) (targets : List Target) (verdict : Result Module WordFault) → JudgesFile bytes verdict
      → Some_ (λ owed. IsTaken files text targets owed verdict (refusal_of verdict)) targets
  some_refused bytes text targets (Ok m) judged = some_verdict bytes text targets m (refused_module m) judged refl
  some_refused bytes text targets (Err fault) judged = some_told 8 _ targets

  pub some_judged : (bytes text : List ℕ) (targets : List Target) → Some_ (IsJudged files bytes text targets) targets
  some_judged bytes text targets =
      let v = judged_file bytes in
      let its = some_refused bytes text targets v.0 v.1 in
      (its.0, (v.0, v.1, its.1), its.2)

  pub some_behind : (bytes : List ℕ) (targets : List Target) (found : Read) → Some_ (λ owed. IsBehind files bytes targets owed found) targets
  some_behind bytes targets Missing = (failed targets, refl, λ target at. at)
  some_behind bytes targets Longer = some_told 7 long_text targets
  some_behind bytes targets (Whole text) = some_judged bytes text targets

  module _ (file inputs : Name) where
    first_of : (target : Target) → Contains (Reading file ∷ []) target → Contains (Reading file ∷ Reading inputs ∷ []) target
    first_of target at = contains_front target (Reading file ∷ []) (Reading inputs ∷ []) at

    some_read : (found : Read) → Some_ (λ owed. IsRead file inputs files owed found) (Reading file ∷ [])
    some_read Missing = (failed (Reading file ∷ []), refl, λ target at. at)
    some_read Longer = some_told 8 module_long_text (Reading file ∷ [])
    some_read (Whole bytes) =
        let its = some_behind bytes (Reading file ∷ Reading inputs ∷ []) (read_of MAX_MANIFEST_BYTES (get files inputs)) in
        (its.0, its.1, λ target at. its.2 target (first_of target at))

    -- Something is owed whatever the files are.
    pub some_owed : Some_ (IsOwed file inputs files) (Reading file ∷ [])
    some_owed = some_read (read_of MAX_MODULE_BYTES (get files file))
