-- Structs (GLSL 4.50, 4.1.8).
use Rattle.std.specs.Prelude.{ℕ, ◌+◌, min, Bool, not, ◌||◌, nat_le, List, [], ◌∷◌, ◌++◌, map, length, Ok}
use Rattle.std.specs.List.{list_any}
use Rattle.std.specs.Str.{bytes_eq}
use Rattle.gsl_base.specs.Checked.{Checked, ◌>>=◌}
use Rattle.gsl_base.specs.declared.fault.Code.TheVariants.{E0403, E0404, E0510, E0908}
use Rattle.gsl_syntax.specs.declared.declaration.Name.{Name}
use Rattle.gsl_syntax.specs.declared.declaration.Declared.{Declared}
use Rattle.gsl_syntax.specs.declared.declaration.StructMember.{StructMember}
use Rattle.gsl_syntax.specs.declared.declaration.Struct.{Struct}
use Rattle.gsl_types.specs.declared.ty.Member.{Member}
use Rattle.gsl_types.specs.declared.ty.StructType.{StructType}
use Rattle.gsl_types.specs.declared.ty.Ty.{Ty}
use Rattle.gsl_types.specs.Structs.{members_meaning}
use Rattle.gsl_types.specs.Leaves.{counting, leaves_together, most_leaves}
use Rattle.gsl_names.specs.declared.entry.Entry.TheVariants as entry
use Rattle.gsl_names.specs.Scopes.{declare}
use Rattle.gsl_tree.specs.Expressions.{most_parts}
use Rattle.gsl_tree.specs.Weights.{highest, height_meaning, most_high}
use Rattle.gsl_typing.specs.declared.scene.Scene.{Scene}
use Rattle.gsl_typing.specs.Rows.{unless}
use Rattle.gsl_check_expr.specs.declared.env.Env.{Env}
use Rattle.gsl_check_expr.specs.declared.writing.Written.{Written}
use Rattle.gsl_check_expr.specs.Expressions.{bracket}
use Rattle.gsl_check_expr.specs.Written.{written_type, declared, whole_type}
use Rattle.gsl_check_decl.specs.Declaring.{is_empty, is_declared, is_reserved, may_be_had, is_high}

-- ---- members

-- a name that one of the members has
unfoldable pub has_member : List Member → List ℕ → Bool
has_member members name = list_any (λ (member : Member). bytes_eq member.name name) members

-- a member may be declared behind these
unfoldable pub may_be_member : Scene → Name → Ty → List Member → Checked (Unit {0})
may_be_member scene name t members = unless name.place (
    (E0403, has_member members name.text)
    ∷ (E0404, is_reserved name.text)
    ∷ (E0510, not (may_be_had scene t))
    ∷ (E0908, is_high scene t)
    ∷ []
    )
    (Ok tt)

-- the members with one more
abbrev pub with_member : Scene → Name → Ty → List Member → Checked (List Member)
with_member scene name t members = may_be_member scene name t members >>= (λ _. Ok (members ++ record { name = name.text; ty = t } ∷ []))

-- the members with one more, where this type stands before its name
unfoldable pub with_name : Env → Written → Declared → List Member → Checked (List Member)
with_name env base one members = declared (map (bracket env) one.dims) base
    >>= (λ t. whole_type t >>= (λ whole. with_member env.scene one.name whole members))

-- the members of one line, behind those before it
abbrev pub with_names : Env → Written → List Declared → List Member → Checked (List Member)
with_names env base [] members = Ok members
with_names env base (one ∷ more) members = with_name env base one members >>= with_names env base more

unfoldable pub with_line : Env → StructMember → List Member → Checked (List Member)
with_line env line members = written_type env line.ty >>= (λ base. with_names env base line.names members)

-- the members of all lines
abbrev pub with_lines : Env → List StructMember → List Member → Checked (List Member)
with_lines env [] members = Ok members
with_lines env (line ∷ lines) members = with_line env line members >>= with_lines env lines

-- ---- the struct

-- the leaves of members together, as they are told
abbrev pub leaves_together_told : List StructType → List Member → ℕ
leaves_together_told structs members = min (leaves_together (members_meaning counting structs members)) most_leaves

-- how high a struct of these members is: one more than the highest of them
abbrev pub height_over : List StructType → List Member → ℕ
height_over structs members = 1 + highest (members_meaning height_meaning structs members)

-- more members than a struct may have, or a type that is higher than types may be
unfoldable pub is_too_large : Scene → List Member → Bool
is_too_large scene members = not (nat_le (length members) most_parts) || not (nat_le (height_over scene.structs members) most_high)

-- the struct of this name and these members
abbrev pub struct_of : List StructType → List ℕ → List Member → StructType
struct_of structs name members = record { name = name; members = members; leaves = leaves_together_told structs members }

-- what is declared behind a struct of these members; its height is kept beside it
unfoldable pub with_struct : List ℕ → List Member → Env → Env
with_struct name members env = record env {
  names = declare name (entry.Struct (length env.scene.structs)) env.names;
  scene = record env.scene { structs = env.scene.structs ++ struct_of env.scene.structs name members ∷ [] };
  heights = env.heights ++ height_over env.scene.structs members ∷ [];
}

-- How high a struct of these members is, which may be declared. The grammar gives each struct a member; a type without one is no type of variables.
unfoldable pub may_be_struct : Name → List Member → Env → Checked ℕ
may_be_struct name members env = unless name.place (
    (E0403, is_declared env name.text)
    ∷ (E0404, is_reserved name.text)
    ∷ (E0510, is_empty members)
    ∷ (E0908, is_too_large env.scene members)
    ∷ []
    )
    (Ok (height_over env.scene.structs members))

-- The number of a struct, which is declared behind its members, and what is declared behind it.
unfoldable pub structured : Struct → Env → Checked (ℕ × Env)
structured s env = with_lines env s.members []
    >>= (λ members. may_be_struct s.name members env >>= (λ _. Ok (length env.scene.structs, with_struct s.name.text members env)))
