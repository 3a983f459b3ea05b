-- What is owed with status 0: the module has ended.
use Rattle.std.proofs.Common.{◌≡◌, ℕ, List, length, Option, Some, None, Result, Ok, Err, refl, ap, sym, ◌∙◌, inl, inr}
use Rattle.std.proofs.lemmas.Bool.{cases_lt, lt-ltb, le-ltb, cond-true, cond-false}
use Rattle.std.specs.FinMap.{get}
use Rattle.gsl_base.specs.declared.input.Input.{Input}
use Rattle.gsl_base.specs.declared.input.Output.{Output}
use Rattle.gsl_host.specs.declared.target.Target.{Target}
use Rattle.gsl_host.specs.Outside.{Files, Name}
use Rattle.gsl_text.specs.Lines.{lines_of}
use Rattle.gsl_manifest.specs.declared.manifest.Manifest.{Manifest}
use Rattle.gsl_manifest.specs.Listing.{listing_of}
use Rattle.gsl_manifest.specs.Manifests.{AreManifest}
use Rattle.gsl_inputs.specs.Demands.{Met}
use Rattle.gsl_given.specs.declared.given.TheConstants.{MAX_MANIFEST_BYTES}
use Rattle.gsl_given.specs.Given.{Found, Got, Absent, TooLong, given}
use Rattle.gsl_words.specs.declared.fault.WordFault.{WordFault}
use Rattle.gsl_words.specs.declared.module.Module.{Module}
use Rattle.gsl_words.specs.Bytes.{bytes_of}
use Rattle.gsl_machine.specs.Fits.{fits}
use Rattle.gsl_machine.specs.Machine.{after}
use Rattle.gsl_machine.specs.State.{Outcome, Ended, Going, Strayed, Stuck}
use Rattle.gsl_valid.specs.Valid.{Valid}
use Rattle.gsl_exec.specs.declared.reading.TheConstants.{MAX_MODULE_BYTES}
use Rattle.gsl_exec.specs.Done.{HasEnded}
use Rattle.gsl_exec.specs.Judged.{JudgesFile, refusal_of, refused_module}
use Rattle.gsl_exec.specs.Owed.{Owed, Read, Missing, Longer, Whole, read_of, IsCame, IsTested, IsGiven, IsTaken, IsBehind, IsRead, IsOwed}
use Rattle.gsl_exec.proofs.Verdicts.{is_valid, of_file}

-- a file that was read whole
pub whole_is : (most : ℕ) (file : Option (List ℕ)) (bytes : List ℕ) → read_of most file ≡ Whole bytes → file ≡ Some bytes
whole_is most None bytes e = absurd (cc)
whole_is most (Some all) bytes e =
    elim (cases_lt most (length all)) [
      | inl long ↦ absurd (let no : Longer ≡ Whole bytes = sym (cond-true _ _ _ (lt-ltb _ _ long)) ∙ e in cc)
      | inr short ↦ let same : Whole all ≡ Whole bytes = sym (cond-false _ _ _ (le-ltb _ _ short)) ∙ e in cc
    ]

module _ (owed : Owed) (well : owed.status ≡ 0) where
  status : {k : ℕ} (its : Owed) → owed ≡ its → its.status ≡ k → k ≡ 0
  status its is e = sym e ∙ sym (ap (λ (o : Owed). o.status) is) ∙ well

  came : (targets : List Target) (o : Outcome) → IsCame targets owed o → (output : Output) × (o ≡ Ended output) × (owed.out ≡ listing_of output)
  came targets (Ended output) is = (output, refl, ap (λ (o : Owed). o.out) is)
  came targets (Going state) is = absurd (let no : 5 ≡ 0 = status _ is refl in cc)
  came targets (Strayed place) is = absurd (let no : 6 ≡ 0 = status _ is refl in cc)
  came targets Stuck is = absurd is

  module _ (files : Files) (inputs : Name) where
    -- the module's run on the input of the manifest has ended, and its output is listed
    abbrev pub Ran : Module → Type 0
    Ran m = (output : Output) × HasEnded files inputs m output × (owed.out ≡ listing_of output)

    module _ (text : List ℕ) (read : get files inputs ≡ Some text) (m : Module) where
      module _ (said : Manifest) (says : AreManifest (lines_of text) said) (targets : List Target) where
        tested : (input : Input) (met : Met) → given files said ≡ Got input → fits m input ≡ met → IsTested targets m said.steps input owed met → Ran m
        tested input (Ok fitting) got fit is =
            let its = came targets (after m said.steps input) is in
            (its.0, record { text = text; said = said; input = input; read = read; says = says; got = got; fit = fit; ended = its.1 }, its.2)
        tested input (Err refusal) got fit is = absurd (let no : 7 ≡ 0 = status _ is refl in cc)

        on_given : (found : Found Input) → given files said ≡ found → IsGiven targets m said.steps owed found → Ran m
        on_given (Got input) got is = tested input (fits m input) got refl is
        on_given Absent got is = absurd (let no : 3 ≡ 0 = status _ is refl in cc)
        on_given (TooLong line) got is = absurd (let no : 7 ≡ 0 = status _ is refl in cc)

      pub taken : (targets : List Target) → IsTaken files text targets owed (Ok m) None → Ran m
      taken targets (Ok said, says, is) = on_given said says _ (given files said) refl is
      taken targets (Err line, says, is) = absurd (let no : 7 ≡ 0 = status _ is refl in cc)

    -- the bytes are those of a valid module, which ran so
    abbrev pub RanOf : List ℕ → Type 0
    RanOf bytes = (m : Module) × Valid m × (bytes ≡ bytes_of m) × Ran m

    module _ (bytes : List ℕ) (targets : List Target) where
      by_module : (text : List ℕ) (m : Module) (refusal : Option (List ℕ)) → get files inputs ≡ Some text → JudgesFile bytes (Ok m) → refused_module m ≡ refusal
          → IsTaken files text targets owed (Ok m) refusal → RanOf bytes
      by_module text m (Some line) read judged e is = absurd (let no : 8 ≡ 0 = status _ is refl in cc)
      by_module text m None read judged e is = (m, is_valid bytes m judged e, (of_file bytes m judged).2, taken text read m targets is)

      by_verdict : (text : List ℕ) (verdict : Result Module WordFault) → get files inputs ≡ Some text → JudgesFile bytes verdict
          → IsTaken files text targets owed verdict (refusal_of verdict) → RanOf bytes
      by_verdict text (Ok m) read judged is = by_module text m (refused_module m) read judged refl is
      by_verdict text (Err fault) read judged is = absurd (let no : 8 ≡ 0 = status _ is refl in cc)

      behind : (found : Read) → read_of MAX_MANIFEST_BYTES (get files inputs) ≡ found → IsBehind files bytes targets owed found → RanOf bytes
      behind Missing e is = absurd (let no : 3 ≡ 0 = status _ is refl in cc)
      behind Longer e is = absurd (let no : 7 ≡ 0 = status _ is refl in cc)
      behind (Whole text) e (verdict, judged, is) = by_verdict text verdict (whole_is MAX_MANIFEST_BYTES (get files inputs) text e) judged is

    module _ (file : Name) where
      by_read : (found : Read) → read_of MAX_MODULE_BYTES (get files file) ≡ found → IsRead file inputs files owed found → (bytes : List ℕ) × (get files file ≡ Some bytes) × RanOf bytes
      by_read Missing e is = absurd (let no : 3 ≡ 0 = status _ is refl in cc)
      by_read Longer e is = absurd (let no : 8 ≡ 0 = status _ is refl in cc)
      by_read (Whole bytes) e is =
          (bytes, whole_is MAX_MODULE_BYTES (get files file) bytes e, behind bytes _ (read_of MAX_MANIFEST_BYTES (get files inputs)) refl is)

      pub owed_done : IsOwed file inputs files owed → (bytes : List ℕ) × (get files file ≡ Some bytes) × RanOf bytes
      owed_done is = by_read (read_of MAX_MODULE_BYTES (get files file)) refl is
