-- How the code reads, and not the rule, which stands in `Manifests.antt`.
-- Reading a manifest line by line.
use Rattle.std.specs.Prelude.{◌≡◌, ℕ, ◌+◌, if◌then◌else◌, List, [], ◌∷◌, ◌++◌, Option, Some, None, Result, Ok, Err, ⊤}
use Rattle.std.specs.List.{list_any}
use Rattle.std.specs.Option.{is_some, unwrap_or}
use Rattle.gsl_base.specs.declared.input.Located.{Located}
use Rattle.gsl_manifest.specs.declared.meaning.Meaning.{Meaning}
use Rattle.gsl_manifest.specs.declared.meaning.Meaning.TheVariants.{Nothing, Buffer, Push, In, Group, Local, Groups, Vertex, Instance, Choice, Steps}
use Rattle.gsl_manifest.specs.declared.manifest.BufferLine.{BufferLine}
use Rattle.gsl_manifest.specs.declared.manifest.PushLine.{PushLine}
use Rattle.gsl_manifest.specs.declared.manifest.Manifest.{Manifest}
use Rattle.gsl_manifest.specs.declared.manifest.ManifestRefusal.{ManifestRefusal}
use Rattle.gsl_manifest.specs.declared.manifest.ManifestRefusal.TheVariants.{Line, Memory}
use Rattle.gsl_manifest.specs.declared.draft.Draft.{Draft}
use Rattle.gsl_text.specs.Numbers.{◌>>=◌}
use Rattle.gsl_manifest.specs.Meanings.{meaning_of, most_steps}
use Rattle.gsl_manifest.specs.Manifests.{same_buffer, same_location, is_lower, place}

-- what no line says
abbrev pub empty : Draft
empty = record {
  buffers = [];
  push = None;
  ins = [];
  group = None;
  local = None;
  groups = None;
  vertex = None;
  instance = None;
  choices = [];
  steps = None;
}

-- with the file of one buffer more, if its set and binding are new
abbrev pub put_buffer : BufferLine → Draft → Option Draft
put_buffer b d = if list_any (same_buffer b) d.buffers then None else Some (record d { buffers = d.buffers ++ b ∷ [] })

-- with words at a location, in their place, if the location is new
abbrev pub put_values : Located → Draft → Option Draft
put_values v d = if list_any (same_location v) d.ins then None else Some (record d { ins = place is_lower v d.ins })

-- with more choices
abbrev pub put_choices : List ℕ → Draft → Option Draft
put_choices words d = Some (record d { choices = d.choices ++ words })

-- with the file of the push constants, if there is none
abbrev pub put_push : PushLine → Draft → Option Draft
put_push p d = if is_some d.push then None else Some (record d { push = Some p })

-- with the number of the work group, if there is none
abbrev pub put_group : List ℕ → Draft → Option Draft
put_group ids d = if is_some d.group then None else Some (record d { group = Some ids })

-- with the number of the invocation, if there is none
abbrev pub put_local : List ℕ → Draft → Option Draft
put_local ids d = if is_some d.local then None else Some (record d { local = Some ids })

-- with how many work groups there are, if that is not said
abbrev pub put_groups : List ℕ → Draft → Option Draft
put_groups ids d = if is_some d.groups then None else Some (record d { groups = Some ids })

-- with the number of the vertex, if there is none
abbrev pub put_vertex : ℕ → Draft → Option Draft
put_vertex id d = if is_some d.vertex then None else Some (record d { vertex = Some id })

-- with the number of the instance, if there is none
abbrev pub put_instance : ℕ → Draft → Option Draft
put_instance id d = if is_some d.instance then None else Some (record d { instance = Some id })

-- with how many steps may be taken, if that is not said
abbrev pub put_steps : ℕ → Draft → Option Draft
put_steps k d = if is_some d.steps then None else Some (record d { steps = Some k })

-- the draft with what line n says, if that may stand there
abbrev pub put : ℕ → Meaning → Draft → Option Draft
put n Nothing d = Some d
put n (Buffer set binding path) d = put_buffer (record { set = set; binding = binding; path = path; line = n }) d
put n (Push path) d = put_push (record { path = path; line = n }) d
put n (In location words) d = put_values (record { location = location; words = words }) d
put n (Group ids) d = put_group ids d
put n (Local ids) d = put_local ids d
put n (Groups ids) d = put_groups ids d
put n (Vertex id) d = put_vertex id d
put n (Instance id) d = put_instance id d
put n (Choice words) d = put_choices words d
put n (Steps k) d = put_steps k d

-- the draft with line n
unfoldable pub put_line : ℕ → List ℕ → Draft → Option Draft
put_line n line d = meaning_of line >>= λ says. put n says d

-- the draft of all lines, of which the first is line n, or the number of the line that may not stand
abbrev pub read_all : ℕ → List (List ℕ) → Draft → Result Draft ℕ
read_all n [] d = Ok d
read_all n (line ∷ lines) d = elim (put_line n line d) [ Some e ↦ read_all (n + 1) lines e | None ↦ Err n ]

-- the manifest of a draft
abbrev pub finished : Draft → Manifest
finished d = record {
  buffers = d.buffers;
  push = d.push;
  input = record {
    buffers = [];
    push = None;
    ins = d.ins;
    group = unwrap_or d.group (0 ∷ 0 ∷ 0 ∷ []);
    local = unwrap_or d.local (0 ∷ 0 ∷ 0 ∷ []);
    groups = unwrap_or d.groups (1 ∷ 1 ∷ 1 ∷ []);
    vertex = unwrap_or d.vertex 0;
    instance = unwrap_or d.instance 0;
    choices = d.choices;
  };
  steps = unwrap_or d.steps most_steps;
}

-- Unless memory was wanting, what was given is the answer.
abbrev pub Reads : Result Draft ManifestRefusal → Result Draft ℕ → Type 0
Reads (Ok d) answer = answer ≡ Ok d
Reads (Err (Line n)) answer = answer ≡ Err n
Reads (Err Memory) answer = ⊤
