-- Meanings of types by cases, where a struct has that of its members.
use Rattle.std.specs.Prelude.{ℕ, List, [], ◌∷◌, ◌++◌, map, get_or}
use Rattle.gsl_types.specs.declared.ty.Ty.{Ty}
use Rattle.gsl_types.specs.declared.ty.Ty.TheOpen.{Ty-F}
use Rattle.gsl_types.specs.declared.ty.Ty.TheFolds.{fold-Ty}
use Rattle.gsl_types.specs.declared.ty.Member.{Member}
use Rattle.gsl_types.specs.declared.ty.StructType.{StructType}

-- A meaning of types: what it is of each kind of type but structs, by the meanings of the parts; what it is of a struct, by its name
-- and its members' names and meanings; and what stands for a struct that is not there.
pub record Meaning (A : Type 0) : Type 0 where
  pub kind : Ty-F A → A
  pub struct : List ℕ → List (List ℕ × A) → A
  pub none : A

-- one layer of a type, where the structs' meanings are known by number
abbrev pub layer : {A : Type 0} → Meaning A → (ℕ → A) → Ty-F A → A
layer m known (Ty-F.Struct number) = known number
layer m known Ty-F.Void = m.kind Ty-F.Void
layer m known (Ty-F.One s) = m.kind (Ty-F.One s)
layer m known (Ty-F.Vector s n) = m.kind (Ty-F.Vector s n)
layer m known (Ty-F.Array a n) = m.kind (Ty-F.Array a n)
layer m known (Ty-F.Runtime a) = m.kind (Ty-F.Runtime a)

-- the meaning of a type over those of the structs
abbrev pub over : {A : Type 0} → Meaning A → (ℕ → A) → Ty → A
over {A} m known = fold-Ty A (layer m known)

-- the names and meanings of members
abbrev pub members_over : {A : Type 0} → Meaning A → (ℕ → A) → List Member → List (List ℕ × A)
members_over m known members = map (λ member. (member.name, over m known member.ty)) members

-- the meaning of a struct over those of the structs
abbrev pub struct_over : {A : Type 0} → Meaning A → (ℕ → A) → StructType → A
struct_over m known struct = m.struct struct.name (members_over m known struct.members)

-- the meanings of structs in their order, behind those of the structs before them
abbrev pub table_from : {A : Type 0} → Meaning A → List A → List StructType → List A
table_from m before [] = before
table_from m before (struct ∷ structs) = table_from m (before ++ struct_over m (λ number. get_or before number m.none) struct ∷ []) structs

-- the meaning of the struct of a number
abbrev pub numbered : {A : Type 0} → Meaning A → List StructType → ℕ → A
numbered m structs number = get_or (table_from m [] structs) number m.none

-- the meaning of a type
abbrev pub meaning : {A : Type 0} → Meaning A → List StructType → Ty → A
meaning m structs = over m (numbered m structs)

-- the names and meanings of members
abbrev pub members_meaning : {A : Type 0} → Meaning A → List StructType → List Member → List (List ℕ × A)
members_meaning m structs = members_over m (numbered m structs)
