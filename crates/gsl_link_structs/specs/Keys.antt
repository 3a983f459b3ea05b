-- The words by which the head of a function and a struct type are found: two heads have the same words exactly where they are of one
-- function, and two structs exactly where they are the same.
use Rattle.std.specs.Prelude.{ℕ, List, [], ◌∷◌, ◌++◌}
use Rattle.gsl_types.specs.declared.ty.Direction.{Direction}
use Rattle.gsl_types.specs.declared.ty.Scalar.{Scalar}
use Rattle.gsl_types.specs.declared.ty.Scalar.TheVariants as scalar
use Rattle.gsl_types.specs.declared.ty.Ty.{Ty}
use Rattle.gsl_types.specs.declared.ty.Ty.TheOpen.{Ty-F}
use Rattle.gsl_types.specs.declared.ty.Ty.TheFolds.{fold-Ty}
use Rattle.gsl_types.specs.declared.ty.Member.{Member}
use Rattle.gsl_types.specs.declared.ty.StructType.{StructType}
use Rattle.gsl_tree.specs.declared.unit.Prototype.{Prototype}

abbrev pub scalar_word : Scalar → ℕ
scalar_word scalar.Bool = 0
scalar_word scalar.Int = 1
scalar_word scalar.Uint = 2

abbrev pub layer_words : Ty-F (List ℕ) → List ℕ
layer_words Ty-F.Void = 0 ∷ []
layer_words (Ty-F.One s) = 1 ∷ scalar_word s ∷ []
layer_words (Ty-F.Vector s n) = 2 ∷ n ∷ scalar_word s ∷ []
layer_words (Ty-F.Array element n) = 3 ∷ n ∷ element
layer_words (Ty-F.Runtime element) = 4 ∷ element
layer_words (Ty-F.Struct number) = 5 ∷ number ∷ []

abbrev pub type_words : Ty → List ℕ
type_words = fold-Ty (List ℕ) layer_words

-- a 1 before each type, and a 0 at the end
abbrev pub params_words : List (Direction × Ty) → List ℕ
params_words [] = 0 ∷ []
params_words (param ∷ params) = 1 ∷ (type_words param.1 ++ params_words params)

abbrev pub head_words : Prototype → List ℕ
head_words p = params_words p.params ++ p.name

-- a 1 before each byte of a name, and a 0 at the end
abbrev pub spelling_words : List ℕ → List ℕ
spelling_words [] = 0 ∷ []
spelling_words (byte ∷ bytes) = 1 ∷ byte ∷ spelling_words bytes

-- a 1 before each member, and a 0 at the end
abbrev pub members_words : List Member → List ℕ
members_words [] = 0 ∷ []
members_words (member ∷ members) = 1 ∷ (spelling_words member.name ++ (type_words member.ty ++ members_words members))

abbrev pub struct_words : StructType → List ℕ
struct_words s = members_words s.members ++ s.name
