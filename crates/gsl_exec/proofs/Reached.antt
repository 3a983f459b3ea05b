-- What is owed reaches for no more than what was reached for before it, the files that the manifest names, and standard output.
use Rattle.std.proofs.Common.{◌≡◌, ℕ, zero, suc, List, [], ◌∷◌, ◌++◌, Bool, true, false, Option, Some, None, Result, Ok, Err, refl, sym, subst, arith, inl, inr, ◌⊎◌}
use Rattle.std.specs.Prelude.{Contains, map, if◌then◌else◌}
use Rattle.std.specs.FinMap.{get}
use Rattle.gsl_base.specs.declared.input.Input.{Input}
use Rattle.gsl_host.specs.declared.target.Stream.TheVariants as stream
use Rattle.gsl_host.specs.declared.target.Target.{Target}
use Rattle.gsl_host.specs.declared.target.Target.TheVariants.{Reading, Printing}
use Rattle.gsl_host.specs.Outside.{Files, Name}
use Rattle.gsl_manifest.specs.declared.manifest.BufferLine.{BufferLine}
use Rattle.gsl_manifest.specs.declared.manifest.Manifest.{Manifest}
use Rattle.gsl_inputs.specs.Demands.{Met}
use Rattle.gsl_given.specs.declared.given.TheConstants.{MAX_MANIFEST_BYTES}
use Rattle.gsl_given.specs.Given.{Found, Got, Absent, TooLong, IsNamed, given, is_short, names_of, push_names, reads as named_reads}
use Rattle.gsl_words.specs.declared.fault.WordFault.{WordFault}
use Rattle.gsl_words.specs.declared.module.Module.{Module}
use Rattle.gsl_machine.specs.Fits.{fits}
use Rattle.gsl_machine.specs.Machine.{after}
use Rattle.gsl_machine.specs.State.{Outcome, Ended, Going, Strayed, Stuck}
use Rattle.gsl_exec.specs.declared.reading.TheConstants.{MAX_MODULE_BYTES}
use Rattle.gsl_exec.specs.Done.{MayName}
use Rattle.gsl_exec.specs.Judged.{refusal_of}
use Rattle.gsl_exec.specs.Owed.{Owed, Read, Missing, Longer, Whole, read_of, IsCame, IsTested, IsGiven, IsTaken, IsBehind, IsRead, IsOwed}
use Rattle.gsl_exec.proofs.Done.{whole_is}

-- ---- what is read of a manifest is named by it

pub kept : (goes : Bool) (xs : List Target) (target : Target) → Contains (if goes then xs else []) target → Contains xs target
kept true xs target at = at
kept false xs target (k, within, here) = absurd (omega (arith, within))

reads_named : (files : Files) (names : List Name) (target : Target) → Contains (named_reads files names) target → Contains (map Reading names) target
reads_named files [] target at = at
reads_named files (name ∷ names) target (zero, within, here) = (zero, omega arith, here)
reads_named files (name ∷ names) target (suc k, within, here) =
    let later = reads_named files names target (kept (is_short (get files name)) (named_reads files names) target (k, omega (arith, within), here)) in
    (suc later.0, omega (arith, later.1), later.2)

named_of : (lines : List BufferLine) (names : List Name) (target : Target) → Contains (map Reading (map (λ (line : BufferLine). line.path) lines ++ names)) target
    → Contains (map (λ (line : BufferLine). Reading line.path) lines) target ⊎ Contains (map Reading names) target
named_of [] names target at = inr at
named_of (line ∷ lines) names target (zero, within, here) = inl (zero, omega arith, here)
named_of (line ∷ lines) names target (suc k, within, here) =
    elim (named_of lines names target (k, omega (arith, within), here)) [
      | inl (j, below, there) ↦ inl (suc j, omega (arith, below), there)
      | inr at ↦ inr at
    ]

is_named : (files : Files) (said : Manifest) (target : Target) → Contains (named_reads files (names_of said)) target → IsNamed said target
is_named files said target at = named_of said.buffers (push_names said.push) target (reads_named files (names_of said) target at)

-- ---- what is owed

module _ (P : Target → Type 0) (out : P (Printing stream.Out)) where
  -- it holds of all that is reached for
  abbrev pub Within : List Target → Type 0
  Within targets = (target : Target) → Contains targets target → P target

  pub none : Within []
  none target (k, within, here) = absurd (omega (arith, within))

  pub one_more : (first : Target) (targets : List Target) → P first → Within targets → Within (first ∷ targets)
  one_more first targets is others target (zero, within, here) = subst P here is
  one_more first targets is others target (suc k, within, here) = others target (k, omega (arith, within), here)

  pub both : (xs ys : List Target) → Within xs → Within ys → Within (xs ++ ys)
  both [] ys front back = back
  both (x ∷ xs) ys front back = one_more x (xs ++ ys) (front x (zero, omega arith, refl)) (both xs ys (λ target (k, within, here). front target (suc k, omega (arith, within), here)) back)

  module _ (owed : Owed) where
    abbrev Reaches : Type 0
    Reaches = Within owed.targets

    by : (its : Owed) → owed ≡ its → Within its.targets → Reaches
    by its is within = subst (λ (o : Owed). Within o.targets) (sym is) within

    came : (targets : List Target) (o : Outcome) → Within targets → IsCame targets owed o → Reaches
    came targets (Ended output) within is = by _ is (both targets (Printing stream.Out ∷ []) within (one_more (Printing stream.Out) [] out none))
    came targets (Going state) within is = by _ is within
    came targets (Strayed place) within is = by _ is within
    came targets Stuck within is = absurd is

    tested : (targets : List Target) (m : Module) (steps : ℕ) (input : Input) (met : Met) → Within targets → IsTested targets m steps input owed met → Reaches
    tested targets m steps input (Ok fitting) within is = came targets (after m steps input) within is
    tested targets m steps input (Err refusal) within is = by _ is within

    on_given : (targets : List Target) (m : Module) (steps : ℕ) (found : Found Input) → Within targets → IsGiven targets m steps owed found → Reaches
    on_given targets m steps (Got input) within is = tested targets m steps input (fits m input) within is
    on_given targets m steps Absent within is = by _ is within
    on_given targets m steps (TooLong line) within is = by _ is within

    module _ (files : Files) (inputs : Name) (named : (target : Target) → MayName (Some files) inputs target → P target) where
      -- of a valid module, behind the bytes of the manifest
      pub taken : (text : List ℕ) (targets : List Target) (m : Module) → get files inputs ≡ Some text → Within targets → IsTaken files text targets owed (Ok m) None → Reaches
      taken text targets m read within (Ok said, says, is) =
          on_given _ m said.steps (given files said) (both targets (named_reads files (names_of said)) within
          (λ target at. named target (text, said, read, says, is_named files said target at))) is
      taken text targets m read within (Err line, says, is) = by _ is within

      by_refusal : (text : List ℕ) (targets : List Target) (verdict : Result Module WordFault) (refusal : Option (List ℕ)) → get files inputs ≡ Some text → Within targets
          → IsTaken files text targets owed verdict refusal → Reaches
      by_refusal text targets verdict (Some line) read within is = by _ is within
      by_refusal text targets (Ok m) None read within is = taken text targets m read within is
      by_refusal text targets (Err fault) None read within is = absurd is

      behind : (bytes : List ℕ) (targets : List Target) (found : Read) → read_of MAX_MANIFEST_BYTES (get files inputs) ≡ found → Within targets → IsBehind files bytes targets owed found → Reaches
      behind bytes targets Missing e within is = by _ is within
      behind bytes targets Longer e within is = by _ is within
      behind bytes targets (Whole text) e within (verdict, judged, is) =
          by_refusal text targets verdict (refusal_of verdict) (whole_is MAX_MANIFEST_BYTES (get files inputs) text e) within is

      module _ (file : Name) (first : P (Reading file)) (second : P (Reading inputs)) where
        only : Within (Reading file ∷ [])
        only = one_more (Reading file) [] first none

        by_read : (found : Read) → IsRead file inputs files owed found → Reaches
        by_read Missing is = by _ is only
        by_read Longer is = by _ is only
        by_read (Whole bytes) is =
            behind bytes (Reading file ∷ Reading inputs ∷ []) (read_of MAX_MANIFEST_BYTES (get files inputs)) refl
            (one_more (Reading file) (Reading inputs ∷ []) first (one_more (Reading inputs) [] second none)) is

        pub owed_within : IsOwed file inputs files owed → Reaches
        owed_within is = by_read (read_of MAX_MODULE_BYTES (get files file)) is
