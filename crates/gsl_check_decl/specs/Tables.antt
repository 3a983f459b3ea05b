-- What is looked up by names: the heads of functions by a key, and the members of a struct.
use Rattle.std.specs.Prelude.{ℕ, ◌+◌, List, [], ◌∷◌, ◌++◌, nat_eq, encode_utf8, if◌then◌else◌}
use Rattle.gsl_types.specs.declared.ty.Direction.{Direction}
use Rattle.gsl_types.specs.declared.ty.Member.{Member}
use Rattle.gsl_types.specs.declared.ty.Scalar.{Scalar}
use Rattle.gsl_types.specs.declared.ty.Scalar.TheVariants.{Bool, Int, Uint}
use Rattle.gsl_types.specs.declared.ty.Ty.{Ty}
use Rattle.gsl_types.specs.declared.ty.Ty.TheOpen.{Ty-F}
use Rattle.gsl_types.specs.declared.ty.Ty.TheViews.{out-Ty}
use Rattle.gsl_tree.specs.declared.unit.Prototype.{Prototype}
use Rattle.gsl_names.specs.declared.entry.Entry.TheVariants as entry
use Rattle.gsl_names.specs.Scopes.{Scope}

-- ---- heads

abbrev pub letter : Scalar → ℕ
letter Bool = 98
letter Int = 105
letter Uint = 117

abbrev pub digit : ℕ → ℕ
digit n = if nat_eq n 2 then 50 else if nat_eq n 3 then 51 else 52

abbrev pub layer_key : Ty-F Ty → List ℕ
layer_key Ty-F.Void = encode_utf8 118
layer_key (Ty-F.One s) = encode_utf8 (letter s)
layer_key (Ty-F.Vector s n) = encode_utf8 (letter s) ++ encode_utf8 (digit n)
layer_key (Ty-F.Array element n) = encode_utf8 97
layer_key (Ty-F.Runtime element) = encode_utf8 114
layer_key (Ty-F.Struct number) = encode_utf8 115

-- what kind of type it is; arrays are of one kind, and structs
abbrev pub type_key : Ty → List ℕ
type_key t = layer_key (out-Ty t)

unfoldable pub types_key : List (Direction × Ty) → List ℕ
types_key [] = []
types_key (param ∷ params) = type_key param.1 ++ types_key params

-- The key of a head: its name, and the kinds of its parameters' types. The heads of a function have one key; a few functions may share it.
abbrev pub head_key : List ℕ → List (Direction × Ty) → List ℕ
head_key name params = name ++ types_key params

-- the rows of heads that are numbered from a number on, above other rows
unfoldable pub heads_above : ℕ → Scope → List Prototype → Scope
heads_above n rows [] = rows
heads_above n rows (p ∷ heads) = heads_above (n + 1) ((head_key p.name p.params, entry.Function n) ∷ rows) heads

-- ---- members

-- the rows of members, above other rows
unfoldable pub members_above : Scope → List Member → Scope
members_above rows [] = rows
members_above rows (member ∷ members) = members_above ((member.name, entry.Size) ∷ rows) members
