-- The types of the parts of values.
use Rattle.std.specs.Prelude.{◌≡◌, ℕ, ◌<◌, ◌⊎◌, List, [], ◌∷◌, Some}
use Rattle.gsl_types.specs.declared.ty.StructType.{StructType}
use Rattle.gsl_types.specs.declared.ty.Ty.{Ty}
use Rattle.gsl_tree.specs.Expressions.{HasPartType, element_of}
use Rattle.gsl_tree.specs.Operations.{length_of}

-- The part of a number has this type: it is a member of a struct, an element of an array or a component of a vector.
abbrev pub IsPart : List StructType → Ty → ℕ → Ty → Type 0
IsPart structs base number t = HasPartType structs base number t ⊎ ((element_of base ≡ Some t) × (number < length_of base))

-- The numbers of parts lead from one type to another.
abbrev pub LeadsTo : List StructType → Ty → List ℕ → Ty → Type 0
LeadsTo structs base [] t = base ≡ t
LeadsTo structs base (number ∷ path) t = (part : Ty) × IsPart structs base number part × LeadsTo structs part path t
