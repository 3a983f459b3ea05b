-- Manifests as a writer of the format prints them: one space between fields, and decimal numbers.
use Rattle.std.specs.Prelude.{◌≡◌, ◌≢◌, ℕ, ◌+◌, ◌^◌, ◌<◌, ◌≤◌, ◌==◌, false, IsTrue, List, [], ◌∷◌, ◌++◌, length, map, Option, Some, None, codes, slice_index_or, ⊤}
use Rattle.std.specs.List.{flat_map, list_any, AllByRecursion}
use Rattle.std.specs.Str.{is_utf8}
use Rattle.std.specs.Fmt.{decimal}
use Rattle.gsl_base.specs.declared.input.Located.{Located}
use Rattle.gsl_manifest.specs.declared.manifest.BufferLine.{BufferLine}
use Rattle.gsl_manifest.specs.declared.manifest.PushLine.{PushLine}
use Rattle.gsl_manifest.specs.declared.manifest.Manifest.{Manifest}
use Rattle.gsl_manifest.specs.declared.meaning.Meaning.{Meaning}
use Rattle.gsl_manifest.specs.declared.meaning.Meaning.TheVariants.{Nothing, Buffer, Push, In, Group, Local, Groups, Vertex, Instance, Choice, Steps}
use Rattle.gsl_text.specs.Lines.{without_cr}
use Rattle.gsl_base.specs.Proper.{IsProper}
use Rattle.gsl_base.specs.Ranges.{AreWords}
use Rattle.gsl_manifest.specs.Meanings.{most_steps}
use Rattle.gsl_manifest.specs.Manifests.{differ, same_buffer}

-- a number behind a space
abbrev pub field_text : ℕ → List ℕ
field_text n = 32 ∷ decimal n

-- the line that says this
abbrev pub line_text : Meaning → List ℕ
line_text Nothing = []
line_text (Buffer set binding path) = codes "buffer" ++ (field_text set ++ (field_text binding ++ 32 ∷ path))
line_text (Push path) = codes "push" ++ 32 ∷ path
line_text (In location words) = codes "in" ++ (field_text location ++ flat_map field_text words)
line_text (Group ids) = codes "group" ++ flat_map field_text ids
line_text (Local ids) = codes "local" ++ flat_map field_text ids
line_text (Groups ids) = codes "groups" ++ flat_map field_text ids
line_text (Vertex id) = codes "vertex" ++ flat_map field_text (id ∷ [])
line_text (Instance id) = codes "instance" ++ flat_map field_text (id ∷ [])
line_text (Choice words) = codes "choice" ++ flat_map field_text words
line_text (Steps n) = codes "steps" ++ flat_map field_text (n ∷ [])

-- and its end
abbrev pub ended_line : Meaning → List ℕ
ended_line says = line_text says ++ codes "\n"

-- the lines that say these
abbrev pub printed : List Meaning → List ℕ
printed says = flat_map ended_line says

-- A path that a line can name: text with no LF, which begins with no space and ends with no CR.
pub record IsPath (path : List ℕ) : Type 0 where
  pub some : 0 < length path
  pub text : IsTrue (is_utf8 path)
  pub one_line : list_any (λ byte. byte == 10) path ≡ false
  pub begins : slice_index_or path 0 32 ≢ 32
  pub ends : without_cr path ≡ path

-- so many words
pub record AreSome (least greatest : ℕ) (words : List ℕ) : Type 0 where
  pub some : least ≤ length words
  pub most : length words ≤ greatest
  pub fit : AreWords words

-- A line can say this.
abbrev pub IsWritable : Meaning → Type 0
IsWritable Nothing = ⊤
IsWritable (Buffer set binding path) = (set < 2 ^ 32) × (binding < 2 ^ 32) × IsPath path
IsWritable (Push path) = IsPath path
IsWritable (In location words) = (location < 2 ^ 32) × AreSome 1 4 words
IsWritable (Group ids) = AreSome 3 3 ids
IsWritable (Local ids) = AreSome 3 3 ids
IsWritable (Groups ids) = AreSome 3 3 ids
IsWritable (Vertex id) = id < 2 ^ 32
IsWritable (Instance id) = id < 2 ^ 32
IsWritable (Choice words) = (1 ≤ length words) × AreWords words
IsWritable (Steps n) = n ≤ most_steps

-- the line of a buffer's file
abbrev pub buffer_says : BufferLine → Meaning
buffer_says b = Buffer b.set b.binding b.path

-- the line of the push constants' file, if there is one
abbrev pub push_says : Option PushLine → List Meaning
push_says None = []
push_says (Some p) = Push p.path ∷ []

-- the line of a location
abbrev pub values_say : Located → Meaning
values_say v = In v.location v.words

-- the line of all choices, if there are any
abbrev pub choices_say : List ℕ → List Meaning
choices_say [] = []
choices_say (w ∷ words) = Choice (w ∷ words) ∷ []

-- the lines behind those of the files and values
abbrev pub rest_says : Manifest → List Meaning
rest_says m =
    Group m.input.group ∷ Local m.input.local ∷ Groups m.input.groups ∷ Vertex m.input.vertex ∷ Instance m.input.instance ∷ Steps m.steps
    ∷ choices_say m.input.choices

-- what the lines of a manifest say: its buffers and its push constants first, and each thing once
abbrev pub says_of : Manifest → List Meaning
says_of m = map buffer_says m.buffers ++ (push_says m.push ++ (map values_say m.input.ins ++ rest_says m))

-- a manifest as it is printed
abbrev pub manifest_text : Manifest → List ℕ
manifest_text m = printed (says_of m)

-- The buffers stand on the lines from line n on.
abbrev pub AreNumbered : ℕ → List BufferLine → Type 0
AreNumbered n [] = ⊤
AreNumbered n (b ∷ bs) = (b.line ≡ n) × AreNumbered (n + 1) bs

-- The push constants stand on line n.
abbrev pub IsNumbered : ℕ → Option PushLine → Type 0
IsNumbered n None = ⊤
IsNumbered n (Some p) = p.line ≡ n

-- A manifest that a writer prints: no buffer twice, a proper input, its files numbered as they are printed, and no buffer and
-- no push constants in its input.
pub record IsPrintable (m : Manifest) : Type 0 where
  pub pairs : IsTrue (differ same_buffer m.buffers)
  pub proper : IsProper m.input
  pub buffers : AreNumbered 1 m.buffers
  pub push : IsNumbered (1 + length m.buffers) m.push
  pub no_buffers : m.input.buffers ≡ []
  pub no_push : m.input.push ≡ None
  pub writable : AllByRecursion IsWritable (says_of m)
