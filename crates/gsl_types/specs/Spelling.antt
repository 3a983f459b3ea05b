-- Types with each struct written out: two types are the same where they are spelled alike.
use Rattle.std.specs.Prelude.{ℕ, List, [], ◌∷◌}
use Rattle.gsl_types.specs.declared.ty.Scalar.{Scalar}
use Rattle.gsl_types.specs.declared.ty.Ty.{Ty}
use Rattle.gsl_types.specs.declared.ty.Ty.TheOpen.{Ty-F}
use Rattle.gsl_types.specs.declared.ty.StructType.{StructType}
use Rattle.gsl_types.specs.Structs.{Meaning, meaning}

-- A type that is written out. A struct has its name and the chain of its members, each with its name and type.
pub data Spelling : Type 0 where
  Void : Spelling
  One : Scalar → Spelling
  Vector : Scalar → ℕ → Spelling
  Array : Spelling → ℕ → Spelling
  Runtime : Spelling → Spelling
  Struct : List ℕ → Spelling → Spelling
  End : Spelling
  Member : List ℕ → Spelling → Spelling → Spelling

-- a chain of members
abbrev pub chained : List (List ℕ × Spelling) → Spelling
chained [] = End
chained (member ∷ members) = Member member.0 member.1 (chained members)

-- a type by its kind
abbrev pub spelled_kind : Ty-F Spelling → Spelling
spelled_kind Ty-F.Void = Void
spelled_kind (Ty-F.One s) = One s
spelled_kind (Ty-F.Vector s n) = Vector s n
spelled_kind (Ty-F.Array ty n) = Array ty n
spelled_kind (Ty-F.Runtime ty) = Runtime ty
spelled_kind (Ty-F.Struct number) = End

abbrev pub spelling : Meaning Spelling
spelling = record { kind = spelled_kind; struct = λ name members. Struct name (chained members); none = End }

-- a type with each struct written out
abbrev pub spelled : List StructType → Ty → Spelling
spelled structs ty = meaning spelling structs ty
