-- Names and what they stand for, in scopes within each other (GLSL 4.50, 4.2.2).
use Rattle.std.specs.Prelude.{ℕ, List, [], ◌∷◌, ◌++◌, Option, Some, None, if◌then◌else◌}
use Rattle.std.specs.Str.{bytes_eq}
use Rattle.gsl_names.specs.declared.entry.Entry.{Entry}

-- a declaration: the name, and what it stands for
abbrev pub Declared : Type 0
Declared = List ℕ × Entry

-- the declarations of a scope, the last one first
abbrev pub Scope : Type 0
Scope = List Declared

-- the scopes that are open, the innermost first
abbrev pub Scopes : Type 0
Scopes = List Scope

-- what all declarations of a name in a scope stand for; a name of functions may have several
abbrev pub all_in : Scope → List ℕ → List Entry
all_in [] name = []
all_in (declared ∷ scope) name = if bytes_eq declared.0 name then declared.1 ∷ all_in scope name else all_in scope name

-- what all declarations of a name stand for, hidden ones too, those of the innermost scope first
abbrev pub all_of : Scopes → List ℕ → List Entry
all_of [] name = []
all_of (scope ∷ scopes) name = all_in scope name ++ all_of scopes name

abbrev pub first_of : List Entry → Option Entry
first_of [] = None
first_of (entry ∷ entries) = Some entry

-- What a name stands for: its last declaration in the innermost scope that has one.
abbrev pub find : Scopes → List ℕ → Option Entry
find scopes name = first_of (all_of scopes name)

abbrev pub innermost : Scopes → Scope
innermost [] = []
innermost (scope ∷ scopes) = scope

-- what a name stands for by the innermost scope alone
abbrev pub find_here : Scopes → List ℕ → Option Entry
find_here scopes name = first_of (all_in (innermost scopes) name)

-- the scopes with one more declaration in the innermost one
abbrev pub declare : List ℕ → Entry → Scopes → Scopes
declare name entry [] = []
declare name entry (scope ∷ scopes) = ((name, entry) ∷ scope) ∷ scopes

-- the scopes around the innermost one
abbrev pub outer : Scopes → Scopes
outer [] = []
outer (scope ∷ scopes) = scopes
