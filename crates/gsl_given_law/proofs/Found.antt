-- What is found of the files that a manifest names.
use Rattle.std.proofs.Common.{◌≡◌, refl, ap, sym, ◌∙◌, subst, inl, inr, arith, ℕ, ◌<◌, ◌^◌, Bool, true, false, cond, not, eqb, ltb, ◌&&◌, ◌||◌, List, [], ◌∷◌, length, Option, Some, None}
use Rattle.std.proofs.lemmas.Bool.{and_parts, cases_eq, eq-eqb, ltb-false, ne_eqb, not-true, or_parts}
use Rattle.std.specs.FinMap.{get}
use Rattle.std.specs.List.{AllByRecursion, list_any}
use Rattle.gsl_base.specs.Proper.{Ascends, IsProper, StandsBefore}
use Rattle.gsl_base.specs.Ranges.{AreBytes, FitsBuffer, FitsTypes}
use Rattle.gsl_base.specs.declared.input.Buffer.{Buffer}
use Rattle.gsl_base.specs.declared.input.Input.{Input}
use Rattle.gsl_host.specs.Outside.{Files}
use Rattle.gsl_manifest.specs.Manifests.{AreManifest, differ, same_buffer}
use Rattle.gsl_manifest.specs.Meanings.{meaning_of}
use Rattle.gsl_manifest.specs.Spelling.{Spells}
use Rattle.gsl_manifest.specs.declared.manifest.BufferLine.{BufferLine}
use Rattle.gsl_manifest.specs.declared.manifest.Manifest.{Manifest}
use Rattle.gsl_manifest.specs.declared.manifest.PushLine.{PushLine}
use Rattle.gsl_manifest.specs.declared.meaning.Meaning.{Meaning}
use Rattle.gsl_given.specs.Given.{Absent, Found, Got, TooLong, and_then, buffer_found, buffers_found, found_in, given, is_before, push_found, with_buffer, with_files}
use Rattle.gsl_given_law.specs.Files.{AreShort, HoldBytes}
use Rattle.gsl_given_law.proofs.Placed.{any_place, ascends_place, is_at}
use Rattle.gsl_given_law.proofs.Spelled.{FitsLine, all_place, lines_fit, manifest_fits}

-- ---- what was found in two steps

opened : {A B : Type 0} (found : Found A) (next : A → Found B) (b : B) → and_then found next ≡ Got b → (a : A) × (found ≡ Got a) × (next a ≡ Got b)
opened (Got a) next b is = (a, refl, is)
opened Absent next b is = absurd cc
opened (TooLong line) next b is = absurd cc

got : {A : Type 0} (a b : A) → Got a ≡ Got b → a ≡ b
got a b is = cc

some : {A : Type 0} (a b : A) → Some a ≡ Some b → a ≡ b
some a b is = cc

file_found : (line : ℕ) (file : Option (List ℕ)) (bytes : List ℕ) → found_in line file ≡ Got bytes → (file ≡ Some bytes) × (length bytes < 2 ^ 32)
file_found line None bytes is = absurd cc
file_found line (Some found) bytes is = by (ltb 16777216 (length found)) refl is
  where
    by : (b : Bool) → ltb 16777216 (length found) ≡ b → cond b (TooLong line) (Got found) ≡ Got bytes → (Some found ≡ Some bytes) × (length bytes < 2 ^ 32)
    by true e is = absurd cc
    by false e is =
        let same : found ≡ bytes = got found bytes is in
        (ap Some same, subst (λ (xs : List ℕ). length xs < 2 ^ 32) same (omega (arith, ltb-false 16777216 (length found) e)))

-- ---- buffers

abbrev IsShort : Buffer → Type 0
IsShort buffer = length buffer.bytes < 2 ^ 32

record Kept (buffers : List Buffer) : Type 0 where
  pub ascends : Ascends StandsBefore buffers
  pub fits : AllByRecursion FitsBuffer buffers
  pub short : AllByRecursion IsShort buffers

-- no buffer stands where a line has its own
abbrev IsFree : List Buffer → BufferLine → Type 0
IsFree buffers line = list_any (is_at line.set line.binding) buffers ≡ false

eqb_either : (a b : ℕ) → eqb a b ≡ eqb b a
eqb_either a b = elim (cases_eq a b) [
  | inl same ↦ eq-eqb a b same ∙ sym (eq-eqb b a (sym same))
  | inr other ↦ ne_eqb a b other ∙ sym (ne_eqb b a (λ same. other (sym same)))
]

either : (a b : BufferLine) → same_buffer a b ≡ same_buffer b a
either a b = ap (λ t. t && eqb a.binding b.binding) (eqb_either a.set b.set) ∙ ap (λ t. eqb b.set a.set && t) (eqb_either a.binding b.binding)

all_free : (lines : List BufferLine) → AllByRecursion (IsFree []) lines
all_free [] = tt
all_free (line ∷ lines) = (refl, all_free lines)

still_free : (line : BufferLine) (bytes : List ℕ) (acc : List Buffer) (rest : List BufferLine) → list_any (same_buffer line) rest ≡ false → AllByRecursion (IsFree acc) rest → AllByRecursion (IsFree (with_buffer line acc bytes)) rest
still_free line bytes acc [] none free = tt
still_free line bytes acc (other ∷ rest) none free =
    let parts = or_parts (same_buffer line other) (list_any (same_buffer line) rest) none in (
      any_place (is_at other.set other.binding) (record { set = line.set; binding = line.binding; bytes = bytes }) acc ∙ ap (λ t. t || list_any (is_at other.set other.binding) acc) (either other line ∙ parts.0) ∙ free.0,
      still_free line bytes acc rest parts.1 free.1,
    )

module _ (files : Files) (hold : HoldBytes files) where
  one_kept : (line : BufferLine) (bytes : List ℕ) (acc : List Buffer) → Kept acc → FitsLine line → IsFree acc line → get files line.path ≡ Some bytes → length bytes < 2 ^ 32 → Kept (with_buffer line acc bytes)
  one_kept line bytes acc kept fit free there short =
      let b : Buffer = record { set = line.set; binding = line.binding; bytes = bytes } in
      record {
        ascends = ascends_place b acc kept.ascends free;
        fits = all_place is_before FitsBuffer b acc (record { set = fit.0; binding = fit.1; bytes = hold line.path bytes there }) kept.fits;
        short = all_place is_before IsShort b acc short kept.short;
      }

  buffers_kept : (lines : List BufferLine) (acc out : List Buffer) → Kept acc → differ same_buffer lines ≡ true → AllByRecursion (IsFree acc) lines → AllByRecursion FitsLine lines → buffers_found files acc lines ≡ Got out → Kept out
  buffers_kept [] acc out kept apart free fit is = subst Kept (got acc out is) kept
  buffers_kept (line ∷ lines) acc out kept apart free fit is =
      let one = opened (buffer_found files acc line) (λ all. buffers_found files all lines) out is in
      let file = opened (found_in line.line (get files line.path)) (λ bytes. Got (with_buffer line acc bytes)) one.0 one.1 in
      let there = file_found line.line (get files line.path) file.0 file.1 in
      let same : with_buffer line acc file.0 ≡ one.0 = got (with_buffer line acc file.0) one.0 file.2 in
      let parts = and_parts (not (list_any (same_buffer line) lines)) (differ same_buffer lines) apart in
      buffers_kept lines one.0 out (subst Kept same (one_kept line file.0 acc kept fit.0 free.0 there.0 there.1)) parts.1
      (subst (λ (all : List Buffer). AllByRecursion (IsFree all) lines) same (still_free line file.0 acc lines (not-true (list_any (same_buffer line) lines) parts.0) free.1)) fit.1 one.2

  push_kept : (line : Option PushLine) (push : Option (List ℕ)) → push_found files line ≡ Got push → (bytes : List ℕ) → push ≡ Some bytes → AreBytes bytes × (length bytes < 2 ^ 32)
  push_kept None push is bytes here = absurd (nothing bytes (got None push is ∙ here))
    where
      nothing : (bytes : List ℕ) → None ≡ Some bytes → ⊥
      nothing bytes e = cc
  push_kept (Some line) push is bytes here =
      let file = opened (found_in line.line (get files line.path)) (λ read. Got (Some read)) push is in
      let there = file_found line.line (get files line.path) file.0 file.1 in
      subst (λ (xs : List ℕ). AreBytes xs × (length xs < 2 ^ 32)) (some file.0 bytes (got (Some file.0) push file.2 ∙ here)) (hold line.path file.0 there.0, there.1)

  -- ---- the whole input

  module _ (spells : (line : List ℕ) (says : Meaning) → meaning_of line ≡ Some says → Spells line says) (proper_of : (lines : List (List ℕ)) (m : Manifest) → AreManifest lines m → IsProper m.input) where
    pub all_given : (lines : List (List ℕ)) (m : Manifest) (input : Input) → AreManifest lines m → given files m ≡ Got input → IsProper input × FitsTypes input × AreShort input
    all_given lines m input are is =
        let one = opened (buffers_found files [] m.buffers) (λ buffers. and_then (push_found files m.push) (λ push. Got (with_files m.input buffers push))) input is in
        let two = opened (push_found files m.push) (λ push. Got (with_files m.input one.0 push)) input one.2 in
        let same : with_files m.input one.0 two.0 ≡ input = got (with_files m.input one.0 two.0) input two.2 in
        let apart : differ same_buffer m.buffers ≡ true = subst (λ (k : Manifest). differ same_buffer k.buffers ≡ true) (sym are.value) are.once.buffers in
        let kept = buffers_kept m.buffers [] one.0 (record { ascends = tt; fits = tt; short = tt }) apart (all_free m.buffers) (lines_fit spells lines m are) one.1 in
        let pushed = push_kept m.push two.0 two.1 in
        let proper = proper_of lines m are in
        let types = manifest_fits spells lines m are in
        subst (λ (i : Input). IsProper i × FitsTypes i × AreShort i) same (
          record { buffers = kept.ascends; ins = proper.ins; comps = proper.comps },
          record { buffers = kept.fits; push = λ bytes here. (pushed bytes here).0; ins = types.ins; group = types.group; local = types.local; groups = types.groups; vertex = types.vertex; instance = types.instance; choices = types.choices },
          record { buffers = kept.short; push = λ bytes here. (pushed bytes here).1 },
        )
