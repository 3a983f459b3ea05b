-- Computes what the format says; the rule is in `Spelling.antt`.
-- What each line of a manifest says.
use Rattle.std.specs.Prelude.{ℕ, ◌==◌, Bool, true, if◌then◌else◌, nat_le, List, [], ◌∷◌, length, Option, Some, None, codes}
use Rattle.std.specs.Str.{is_utf8, bytes_eq}
use Rattle.gsl_manifest.specs.declared.meaning.Keyword.{Keyword}
use Rattle.gsl_manifest.specs.declared.meaning.Keyword.TheVariants as word
use Rattle.gsl_manifest.specs.declared.meaning.Meaning.{Meaning}
use Rattle.gsl_manifest.specs.declared.meaning.Meaning.TheVariants.{Nothing, Buffer, Push, In, Group, Local, Groups, Vertex, Instance, Choice, Steps}
use Rattle.gsl_text.specs.Numbers.{◌>>=◌}
use Rattle.gsl_manifest.specs.Fields.{field_at, unsigned_at, number_at, last, three_at, some_numbers_at, path_at}

-- the word that a line begins with
unfoldable pub keyword_of : List ℕ → Option Keyword
keyword_of bytes =
    if bytes_eq bytes (codes "buffer") then Some word.Buffer
    else if bytes_eq bytes (codes "push") then Some word.Push
    else if bytes_eq bytes (codes "in") then Some word.In
    else if bytes_eq bytes (codes "group") then Some word.Group
    else if bytes_eq bytes (codes "local") then Some word.Local
    else if bytes_eq bytes (codes "groups") then Some word.Groups
    else if bytes_eq bytes (codes "vertex") then Some word.Vertex
    else if bytes_eq bytes (codes "instance") then Some word.Instance
    else if bytes_eq bytes (codes "choice") then Some word.Choice
    else if bytes_eq bytes (codes "steps") then Some word.Steps
    else None

-- the most steps that a manifest may give
abbrev pub most_steps : ℕ
most_steps = 1000000000

-- `buffer SET BINDING PATH`
unfoldable pub buffer_at : List ℕ → Option Meaning
buffer_at bytes =
    unsigned_at bytes >>= λ set. unsigned_at set.1 >>= λ binding. path_at binding.1 >>= λ path. Some (Buffer set.0 binding.0 path)

-- `push PATH`
abbrev pub push_at : List ℕ → Option Meaning
push_at bytes = path_at bytes >>= λ path. Some (Push path)

-- `group x y z`
abbrev pub group_at : List ℕ → Option Meaning
group_at bytes = three_at bytes >>= λ ids. Some (Group ids)

-- `local x y z`
abbrev pub local_at : List ℕ → Option Meaning
local_at bytes = three_at bytes >>= λ ids. Some (Local ids)

-- `groups x y z`
abbrev pub groups_at : List ℕ → Option Meaning
groups_at bytes = three_at bytes >>= λ ids. Some (Groups ids)

-- `vertex n`
abbrev pub vertex_at : List ℕ → Option Meaning
vertex_at bytes = last (number_at bytes) >>= λ n. Some (Vertex n)

-- `instance n`
abbrev pub instance_at : List ℕ → Option Meaning
instance_at bytes = last (number_at bytes) >>= λ n. Some (Instance n)

-- `in LOCATION w..`, with one to four words
unfoldable pub in_at : List ℕ → Option Meaning
in_at bytes = unsigned_at bytes >>= λ location. some_numbers_at 4 location.1 >>= λ words. Some (In location.0 words)

-- `choice w..`, with one word or more, each of which takes two bytes at least
unfoldable pub choice_at : List ℕ → Option Meaning
choice_at bytes = some_numbers_at (length bytes) bytes >>= λ words. Some (Choice words)

-- `steps n`, with at most 1,000,000,000 of them
unfoldable pub steps_at : List ℕ → Option Meaning
steps_at bytes = last (unsigned_at bytes) >>= λ n. if nat_le n most_steps then Some (Steps n) else None

-- what the fields behind the word say
abbrev pub fields_say : Keyword → List ℕ → Option Meaning
fields_say word.Buffer bytes = buffer_at bytes
fields_say word.Push bytes = push_at bytes
fields_say word.In bytes = in_at bytes
fields_say word.Group bytes = group_at bytes
fields_say word.Local bytes = local_at bytes
fields_say word.Groups bytes = groups_at bytes
fields_say word.Vertex bytes = vertex_at bytes
fields_say word.Instance bytes = instance_at bytes
fields_say word.Choice bytes = choice_at bytes
fields_say word.Steps bytes = steps_at bytes

-- whether a line is empty or a comment
abbrev pub is_blank : List ℕ → Bool
is_blank [] = true
is_blank (byte ∷ bytes) = byte == 35

-- a word and its fields
unfoldable pub sentence : List ℕ → Option Meaning
sentence line = keyword_of (field_at line).0 >>= λ keyword. fields_say keyword (field_at line).1

-- what a line says, if it says anything: it is UTF-8, and it is blank, or a word and its fields
unfoldable pub meaning_of : List ℕ → Option Meaning
meaning_of line = if is_utf8 line then (if is_blank line then Some Nothing else sentence line) else None
