-- What a run is given: its manifest, with the bytes of the files that it names.
use Rattle.std.specs.Prelude.{◌≡◌, ℕ, Bool, false, not, ◌++◌, ◌==◌, ◌&&◌, ◌||◌, nat_lt, IsSomeAnd, ◌<◌, ◌≤◌, List, [], ◌∷◌, map, length, Contains, ◌⊎◌, Option, Some, None, Result, Ok, Err, if◌then◌else◌}
use Rattle.std.specs.FinMap.{get}
use Rattle.gsl_base.specs.declared.input.Buffer.{Buffer}
use Rattle.gsl_base.specs.declared.input.Input.{Input}
use Rattle.gsl_host.specs.declared.target.Target.{Target}
use Rattle.gsl_host.specs.declared.target.Target.TheVariants.{Reading}
use Rattle.gsl_host.specs.Outside.{Files, Name}
use Rattle.gsl_text.specs.Lines.{lines_of}
use Rattle.gsl_manifest.specs.declared.manifest.BufferLine.{BufferLine}
use Rattle.gsl_manifest.specs.declared.manifest.PushLine.{PushLine}
use Rattle.gsl_manifest.specs.declared.manifest.Manifest.{Manifest}
use Rattle.gsl_manifest.specs.Manifests.{AreManifest, BreaksAt, place}
use Rattle.gsl_given.specs.declared.stop.Stop.{Stop}
use Rattle.gsl_given.specs.declared.stop.Stop.TheVariants as stop
use Rattle.gsl_given.specs.declared.given.TheConstants.{MAX_MANIFEST_BYTES, MAX_FILE_BYTES}
use Rattle.gsl_given.specs.Texts.{line_text, long_text}

-- What reading files gives, up to the first that is absent or too long.
pub data Found (A : Type 0) : Type 0 where
  Got : (found : A) → Found A
  Absent : Found A
  TooLong : (line : ℕ) → Found A

-- goes on with what was found
abbrev pub and_then : {A B : Type 0} → Found A → (A → Found B) → Found B
and_then (Got a) next = next a
and_then Absent next = Absent
and_then (TooLong line) next = TooLong line

-- the bytes of a file that is named on a line
abbrev pub found_in : ℕ → Option (List ℕ) → Found (List ℕ)
found_in line None = Absent
found_in line (Some bytes) = if nat_lt MAX_FILE_BYTES (length bytes) then TooLong line else Got bytes

-- by set, and then by binding
abbrev pub is_before : Buffer → Buffer → Bool
is_before a b = nat_lt a.set b.set || (a.set == b.set && nat_lt a.binding b.binding)

-- a buffer in its place
abbrev pub placed : Buffer → List Buffer → List Buffer
placed buffer buffers = place is_before buffer buffers

-- the buffer of a line in its place among those that were read before
abbrev pub with_buffer : BufferLine → List Buffer → List ℕ → List Buffer
with_buffer line buffers bytes = placed (record { set = line.set; binding = line.binding; bytes = bytes }) buffers

-- the buffer whose file is named on a line, with those that were read before
abbrev pub buffer_found : Files → List Buffer → BufferLine → Found (List Buffer)
buffer_found files buffers line = and_then (found_in line.line (get files line.path)) (λ bytes. Got (with_buffer line buffers bytes))

-- those whose files are named on lines
abbrev pub buffers_found : Files → List Buffer → List BufferLine → Found (List Buffer)
buffers_found files buffers [] = Got buffers
buffers_found files buffers (line ∷ lines) = and_then (buffer_found files buffers line) (λ all. buffers_found files all lines)

abbrev pub push_found : Files → Option PushLine → Found (Option (List ℕ))
push_found files None = Got None
push_found files (Some line) = and_then (found_in line.line (get files line.path)) (λ bytes. Got (Some bytes))

abbrev pub with_files : Input → List Buffer → Option (List ℕ) → Input
with_files input buffers push = record input { buffers = buffers; push = push }

-- The input that a manifest gives: the files of buffers are read in the order of their lines, and that of the push constants last.
abbrev pub given : Files → Manifest → Found Input
given files m = and_then (buffers_found files [] m.buffers) (λ buffers. and_then (push_found files m.push) (λ push. Got (with_files m.input buffers push)))

-- the file with the push constants, if one is named
abbrev pub push_names : Option PushLine → List Name
push_names None = []
push_names (Some line) = line.path ∷ []

-- the files that a manifest names, in the order in which they are read
abbrev pub names_of : Manifest → List Name
names_of m = map (λ (line : BufferLine). line.path) m.buffers ++ push_names m.push

-- whether reading goes on behind a file
abbrev pub is_short : Option (List ℕ) → Bool
is_short None = false
is_short (Some bytes) = not (nat_lt MAX_FILE_BYTES (length bytes))

-- what is read of files that are named, up to the first that is absent or too long
abbrev pub reads : Files → List Name → List Target
reads files [] = []
reads files (name ∷ names) = Reading name ∷ (if is_short (get files name) then reads files names else [])

-- the reading of a file that a manifest names
abbrev pub IsNamed : Manifest → Target → Type 0
IsNamed m target = Contains (map (λ (line : BufferLine). Reading line.path) m.buffers) target ⊎ Contains (map Reading (push_names m.push)) target

-- ---- answers, where the files are told

-- What was found is answered, or the line whose file is too long.
abbrev pub Answers : {A : Type 0} → Found A → Result A Stop → Type 0
Answers found (Ok a) = found ≡ Got a
Answers found (Err (stop.Refused text)) = (line : ℕ) × (found ≡ TooLong line) × (text ≡ line_text line)
Answers found (Err _) = Unit {0}

-- What reading the file that is named on a line answers.
abbrev pub ReadsFileTold : Files → ℕ → Name → Result (List ℕ) Stop → Type 0
ReadsFileTold files line name (Ok bytes) = (get files name ≡ Some bytes) × (length bytes ≤ MAX_FILE_BYTES)
ReadsFileTold files line name (Err (stop.Refused text)) = IsSomeAnd (get files name) (λ bytes. MAX_FILE_BYTES < length bytes) × (text ≡ line_text line)
ReadsFileTold files line name (Err _) = Unit {0}

abbrev pub ReadsFile : Option Files → ℕ → Name → Result (List ℕ) Stop → Type 0
ReadsFile (Some files) line name answer = ReadsFileTold files line name answer
ReadsFile None line name answer = Unit {0}

-- What reading the file of a manifest answers.
abbrev pub ReadsManifestTold : Files → Name → Result (List ℕ) Stop → Type 0
ReadsManifestTold files name (Ok bytes) = (get files name ≡ Some bytes) × (length bytes ≤ MAX_MANIFEST_BYTES)
ReadsManifestTold files name (Err (stop.Refused text)) = IsSomeAnd (get files name) (λ bytes. MAX_MANIFEST_BYTES < length bytes) × (text ≡ long_text)
ReadsManifestTold files name (Err _) = Unit {0}

abbrev pub ReadsManifest : Option Files → Name → Result (List ℕ) Stop → Type 0
ReadsManifest (Some files) name answer = ReadsManifestTold files name answer
ReadsManifest None name answer = Unit {0}

-- What the bytes of a manifest are, or the first line that no manifest has there.
abbrev pub Says : List ℕ → Result Manifest Stop → Type 0
Says bytes (Ok m) = AreManifest (lines_of bytes) m
Says bytes (Err (stop.Refused text)) = (line : ℕ) × BreaksAt (lines_of bytes) line × (text ≡ line_text line)
Says bytes (Err stop.Memory) = Unit {0}
Says bytes (Err stop.Host) = ⊥
