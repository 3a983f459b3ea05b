-- Which lines are those of a manifest, and what the manifest says.
use Rattle.std.specs.Prelude.{◌≡◌, ℕ, ◌+◌, ◌-◌, ◌<◌, ◌≤◌, Bool, true, ◌==◌, ◌&&◌, not, if◌then◌else◌, nat_lt, IsTrue, List, [], ◌∷◌, ◌++◌, length, take, map, Option, Some, None, Result, Ok, Err, ⊤, fold}
use Rattle.std.specs.List.{list_any}
use Rattle.std.specs.Option.{unwrap_or}
use Rattle.gsl_base.specs.declared.input.Located.{Located}
use Rattle.gsl_manifest.specs.declared.meaning.Meaning.{Meaning}
use Rattle.gsl_manifest.specs.declared.meaning.Meaning.TheVariants.{Buffer, Push, In, Group, Local, Groups, Vertex, Instance, Choice, Steps}
use Rattle.gsl_manifest.specs.declared.manifest.BufferLine.{BufferLine}
use Rattle.gsl_manifest.specs.declared.manifest.PushLine.{PushLine}
use Rattle.gsl_manifest.specs.declared.manifest.Manifest.{Manifest}
use Rattle.gsl_manifest.specs.declared.manifest.ManifestRefusal.{ManifestRefusal}
use Rattle.gsl_manifest.specs.declared.manifest.ManifestRefusal.TheVariants.{Line, Memory}
use Rattle.gsl_manifest.specs.Meanings.{meaning_of, most_steps}

-- What a line gives of one kind, by its number. The file of a buffer:
abbrev pub buffer_in : ℕ → Meaning → List BufferLine
buffer_in n (Buffer set binding path) = record { set = set; binding = binding; path = path; line = n } ∷ []
buffer_in n _ = []

-- the file with the push constants
abbrev pub push_in : ℕ → Meaning → List PushLine
push_in n (Push path) = record { path = path; line = n } ∷ []
push_in n _ = []

-- words at a location
abbrev pub values_in : ℕ → Meaning → List Located
values_in n (In location words) = record { location = location; words = words } ∷ []
values_in n _ = []

-- the number of the work group
abbrev pub group_in : ℕ → Meaning → List (List ℕ)
group_in n (Group ids) = ids ∷ []
group_in n _ = []

-- the number of the invocation in its work group
abbrev pub local_in : ℕ → Meaning → List (List ℕ)
local_in n (Local ids) = ids ∷ []
local_in n _ = []

-- how many work groups there are
abbrev pub groups_in : ℕ → Meaning → List (List ℕ)
groups_in n (Groups ids) = ids ∷ []
groups_in n _ = []

-- the number of the vertex
abbrev pub vertex_in : ℕ → Meaning → List ℕ
vertex_in n (Vertex id) = id ∷ []
vertex_in n _ = []

-- the number of the instance
abbrev pub instance_in : ℕ → Meaning → List ℕ
instance_in n (Instance id) = id ∷ []
instance_in n _ = []

-- choices, as many as there are
abbrev pub choices_in : ℕ → Meaning → List ℕ
choices_in n (Choice words) = words
choices_in n _ = []

-- how many steps may be taken
abbrev pub steps_in : ℕ → Meaning → List ℕ
steps_in n (Steps k) = k ∷ []
steps_in n _ = []

-- what all lines give of one kind, the first of them being line n
abbrev pub gather : {A : Type 0} → (ℕ → Meaning → List A) → ℕ → List Meaning → List A
gather given n [] = []
gather given n (says ∷ more) = given n says ++ gather given (n + 1) more

-- what all lines of a manifest give of one kind
abbrev pub all : {A : Type 0} → (ℕ → Meaning → List A) → List Meaning → List A
all given says = gather given 1 says

-- whether two lines name one buffer
abbrev pub same_buffer : BufferLine → BufferLine → Bool
same_buffer a b = a.set == b.set && a.binding == b.binding

-- whether two lines name one location
abbrev pub same_location : Located → Located → Bool
same_location a b = a.location == b.location

-- whether no item is the same as one after it
abbrev pub differ : {A : Type 0} → (A → A → Bool) → List A → Bool
differ same [] = true
differ same (x ∷ xs) = not (list_any (same x) xs) && differ same xs

-- What may stand once does: a buffer, a location, and each other line but those with choices.
pub record StandOnce (says : List Meaning) : Type 0 where
  pub buffers : IsTrue (differ same_buffer (all buffer_in says))
  pub push : length (all push_in says) ≤ 1
  pub values : IsTrue (differ same_location (all values_in says))
  pub group : length (all group_in says) ≤ 1
  pub local : length (all local_in says) ≤ 1
  pub groups : length (all groups_in says) ≤ 1
  pub vertex : length (all vertex_in says) ≤ 1
  pub instance : length (all instance_in says) ≤ 1
  pub steps : length (all steps_in says) ≤ 1

-- by line
abbrev pub IsEarlier : BufferLine → BufferLine → Type 0
IsEarlier a b = a.line < b.line

-- by location
abbrev pub is_lower : Located → Located → Bool
is_lower a b = nat_lt a.location b.location

-- an item in its place among others: in front of the first that it stands before
abbrev pub place : {A : Type 0} → (A → A → Bool) → A → List A → List A
place before x [] = x ∷ []
place before x (y ∷ ys) = if before x y then x ∷ y ∷ ys else y ∷ place before x ys

-- the items in order
abbrev pub in_order : {A : Type 0} → (A → A → Bool) → List A → List A
in_order before xs = fold (λ placed x. place before x placed) [] xs

-- the first, if there is one
abbrev pub first : {A : Type 0} → List A → Option A
first [] = None
first (x ∷ xs) = Some x

-- What the lines say: the files of buffers in the order of their lines, and values by location. What none of them says is none, 0, one work group, no choice, or the most steps.
abbrev pub manifest_of : List Meaning → Manifest
manifest_of says = record {
  buffers = all buffer_in says;
  push = first (all push_in says);
  input = record {
    buffers = [];
    push = None;
    ins = in_order is_lower (all values_in says);
    group = unwrap_or (first (all group_in says)) (0 ∷ 0 ∷ 0 ∷ []);
    local = unwrap_or (first (all local_in says)) (0 ∷ 0 ∷ 0 ∷ []);
    groups = unwrap_or (first (all groups_in says)) (1 ∷ 1 ∷ 1 ∷ []);
    vertex = unwrap_or (first (all vertex_in says)) 0;
    instance = unwrap_or (first (all instance_in says)) 0;
    choices = all choices_in says;
  };
  steps = unwrap_or (first (all steps_in says)) most_steps;
}

-- Each line says something, what may stand once does, and together they say this manifest.
pub record AreManifest (lines : List (List ℕ)) (m : Manifest) : Type 0 where
  pub says : List Meaning
  pub means : map meaning_of lines ≡ map Some says
  pub once : StandOnce says
  pub value : m ≡ manifest_of says

-- The lines before line n are those of a manifest, and with line n they are not.
pub record BreaksAt (lines : List (List ℕ)) (n : ℕ) : Type 0 where
  pub some : 1 ≤ n
  pub within : n ≤ length lines
  pub manifest : Manifest
  pub before : AreManifest (take (n - 1) lines) manifest
  pub here : (m : Manifest) → AreManifest (take n lines) m → ⊥

-- Unless memory was wanting, the answer is the manifest of the lines, or the first line that breaks it.
abbrev pub Answers : Result Manifest ManifestRefusal → List (List ℕ) → Type 0
Answers (Ok m) lines = AreManifest lines m
Answers (Err (Line n)) lines = BreaksAt lines n
Answers (Err Memory) lines = ⊤
