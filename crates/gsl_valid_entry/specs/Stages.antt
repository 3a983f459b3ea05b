-- V9 as a pass asks it, and tables for it.
use Rattle.std.specs.Prelude.{◌≡◌, ℕ, Bool, false, take, nat_eq, ◌==◌, ◌&&◌, ◌||◌, List, [], ◌∷◌, Option, Some, None, if◌then◌else◌}
use Rattle.indexmap.specs.IndexMap.{IndexMap, get}
use Rattle.gsl_words.specs.declared.module.Instr.{Instr}
use Rattle.gsl_words.specs.declared.module.Module.{Module}
use Rattle.gsl_instr.specs.declared.enumerant.decoration.TheConstants as decoration
use Rattle.gsl_instr.specs.declared.enumerant.built_in.TheConstants as built_in
use Rattle.gsl_decorations.specs.Firsts.{first_from}
use Rattle.gsl_valid.specs.Instruction.{read}
use Rattle.gsl_valid.specs.Kinds.{Kind, Place, On, OnMember, Decoration, kind, variable_in}
use Rattle.gsl_valid.specs.Placed.{Code}
use Rattle.gsl_valid.specs.Types.{Lanes, defined_as}
use Rattle.gsl_valid.specs.EntryRules as rules

-- whether the instruction of a number keeps V9, with the instructions at the front of the module in their order
abbrev pub entry_at : Module → ℕ → Instr → Bool
entry_at m at i = rules.entry_of m (take at m.instrs) (kind (read i))

-- the class of a variable with the location that literals give it
abbrev pub located : Option ℕ → List ℕ → Option (ℕ × ℕ)
located None literals = None
located (Some class) [] = None
located (Some class) (location ∷ literals) = Some (class, location)

abbrev pub located_on : Module → ℕ → List ℕ → Place → Option (ℕ × ℕ)
located_on m kind literals (On target) = if kind == decoration.LOCATION then located (rules.class_of (defined_as m target)) literals else None
located_on m kind literals (OnMember target member) = None

-- the same of a decoration, if there is one
abbrev pub located_in : Module → Option Decoration → Option (ℕ × ℕ)
located_in m None = None
located_in m (Some d) = located_on m d.kind d.literals d.place

-- whether two are of one class and location
abbrev pub same_location : ℕ × ℕ → ℕ × ℕ → Bool
same_location a b = a.0 == b.0 && a.1 == b.1

-- The rows give of each function the number of its first call.
abbrev pub TellsCalls : {S : Type 0} → IndexMap ℕ ℕ S → Code → Type 0
TellsCalls rows code = (function : ℕ) → get nat_eq rows function ≡ first_from (λ i. rules.is_call_of function (read i)) 0 code

-- The rows give of each class and location the number of the first decoration that gives them.
abbrev pub TellsLocations : {S : Type 0} → IndexMap (ℕ × ℕ) ℕ S → Module → Type 0
TellsLocations rows m = (l : ℕ × ℕ) → get same_location rows l ≡ first_from (λ i. rules.gives_location m (Some l.0) l.1 (read i)) 0 m.instrs

-- whether an instruction is a variable that may be the built-in one that literals name
abbrev pub is_built_in_kind : Module → List ℕ → Kind → Bool
is_built_in_kind m [] k = false
is_built_in_kind m (n ∷ literals) k = rules.is_built_in m n (variable_in k)

-- whether these components are those of a built-in variable of a compute shader
abbrev pub is_compute_type : ℕ → Option Lanes → Bool
is_compute_type n lanes =
    (n == built_in.NUM_WORKGROUPS || n == built_in.WORKGROUP_ID || n == built_in.LOCAL_INVOCATION_ID || n == built_in.GLOBAL_INVOCATION_ID) && rules.are_words 0 3 lanes
    || n == built_in.LOCAL_INVOCATION_INDEX && rules.are_words 0 1 lanes
