-- Types that are put into a module once, and which of them are known already.
use Rattle.std.specs.Prelude.{◌≡◌, ℕ, List, [], ◌∷◌, ◌++◌, Option, Some, None, Result, Ok, Err}
use Rattle.gsl_types.specs.declared.ty.Ty.{Ty}
use Rattle.gsl_spv.specs.Sections.{Sections}
use Rattle.gsl_spv.specs.declared.refusal.BuildRefusal.{BuildRefusal}
use Rattle.gsl_lower_values.specs.Building.{Built, Made, Full, Step, ◌>>=◌, given, Refuses}
use Rattle.gsl_lower_holders.specs.Flow.{find_type}

-- arrays and structs of the program, each with the id of the type that stands for it
abbrev pub Known : Type 0
Known = List (Ty × ℕ)

-- what puts types: what it gives, with what is known then
abbrev pub Put : Type 0 → Type 0
Put A = Known → Step (A × Known)

-- a step that puts no array and no struct
abbrev pub aside : {A : Type 0} → Step A → Put A
aside step known = step >>= (λ a. given (a, known))

-- a type should be there, and is not
abbrev pub lacking : {A : Type 0} → Step A
lacking sections = Full

abbrev pub id_or_lacking : Option ℕ → Put ℕ
id_or_lacking None known = lacking
id_or_lacking (Some id) known = given (id, known)

-- the id of an array or struct that is there
abbrev pub known_type : Ty → Put ℕ
known_type ty known = id_or_lacking (find_type ty known) known

-- a type, known under an id from now on
abbrev pub with_type : Ty → ℕ → Known → Known
with_type ty id known = known ++ (ty, id) ∷ []

abbrev pub id_or_put : Option ℕ → Ty → Put ℕ → Put ℕ
id_or_put None ty put known = put known >>= (λ r. given (r.0, with_type ty r.0 r.1))
id_or_put (Some id) ty put known = given (id, known)

-- the id that a type has, or, where it has none, the one under which it is put
abbrev pub once : Ty → Put ℕ → Put ℕ
once ty put known = id_or_put (find_type ty known) ty put known

-- ---- one type for each of some items

-- the ids that are given for items, in their order
unfoldable pub each : {A : Type 0} → (A → Put ℕ) → List A → Put (List ℕ)
each put [] known = given ([], known)
each put (a ∷ items) known = put a known >>= (λ r. each put items r.1 >>= (λ rs. given (r.0 ∷ rs.0, rs.1)))

-- ids behind others that were given before
abbrev pub with_front : {K : Type 0} → List ℕ → Built (List ℕ × K) → Built (List ℕ × K)
with_front front (Made r sections) = Made (front ++ r.0, r.1) sections
with_front front Full = Full

-- what puts types and gives nothing, for each of some items
unfoldable pub all : {A : Type 0} → (A → Put (Unit {0})) → List A → Put (Unit {0})
all put [] known = given (tt, known)
all put (a ∷ items) known = put a known >>= (λ r. all put items r.1)

-- a type is put, whatever its id
abbrev pub only : Put ℕ → Put (Unit {0})
only put known = put known >>= (λ r. given (tt, r.1))

-- ---- how a call of the code answers

-- Unless it wanted memory or a type that should have been there, it came to this, and left the builder and what is threaded so.
abbrev pub Does : {A K : Type 0} → Result A BuildRefusal → Sections → K → Built (A × K) → Type 0
Does (Ok a) sections known built = built ≡ Made (a, known) sections
Does (Err refusal) sections known built = Refuses refusal built
