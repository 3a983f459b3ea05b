-- Declarations at the top of a unit, but for blocks and functions: variables, structs with their variables, and the size of the work group.
use Rattle.std.specs.Prelude.{Bool, List, [], ◌∷◌, ◌++◌, map, Option, Some, None, is_none, unwrap_or, ◌&&◌, Ok}
use Rattle.gsl_base.specs.Checked.{Checked, ◌>>=◌}
use Rattle.gsl_base.specs.declared.fault.Place.{Place}
use Rattle.gsl_base.specs.declared.fault.Code.TheVariants.{E0701}
use Rattle.gsl_syntax.specs.declared.expr.TypeSpec.{TypeSpec}
use Rattle.gsl_syntax.specs.declared.declaration.Declarator.{Declarator}
use Rattle.gsl_syntax.specs.declared.declaration.Qual.{Qual}
use Rattle.gsl_syntax.specs.declared.declaration.Struct.{Struct}
use Rattle.gsl_types.specs.declared.ty.Ty.TheVariants as ty
use Rattle.gsl_typing.specs.Rows.{unless}
use Rattle.gsl_check_expr.specs.declared.env.Env.{Env}
use Rattle.gsl_check_expr.specs.declared.writing.Written.TheVariants.{Whole}
use Rattle.gsl_check_expr.specs.Written.{written_type}
use Rattle.gsl_check_decl.specs.Structs.{structured}
use Rattle.gsl_qualifiers.specs.declared.qualified.Role.{Role}
use Rattle.gsl_qualifiers.specs.declared.qualified.Qualified.{Qualified}
use Rattle.gsl_qualifiers.specs.Qualifiers.{role_alone, qualified}
use Rattle.gsl_check_globals.specs.Variables.{Declares, all_declared, declarator}

-- ---- variables

unfoldable pub variables : Role → List Qual → TypeSpec → List Declarator → Declares
variables role quals t all env = qualified env role quals >>= (λ q. written_type env t >>= (λ base. all_declared (map (declarator role q base) all) env))

unfoldable pub struct_and_variables : Role → List Qual → Struct → List Declarator → Declares
struct_and_variables role quals s all env = qualified env role quals
    >>= (λ q. structured s env >>= (λ done. all_declared (map (declarator role q (Whole (ty.Struct done.0))) all) done.1))

-- ---- the size of the work group (GLSL 4.50, 4.4.1.4)

-- a size is stated, in one direction at least
abbrev pub states_none : Qualified → Bool
states_none q = is_none q.size_x && is_none q.size_y && is_none q.size_z

-- the size that is stated, 1 in each direction that is not
abbrev pub with_size : Qualified → Place → Env → Env
with_size q place env = record env {
  scene = record env.scene {
    sizes = env.scene.sizes ++ record { parts = unwrap_or q.size_x 1 ∷ unwrap_or q.size_y 1 ∷ unwrap_or q.size_z 1 ∷ []; place = place } ∷ [];
  };
}

-- The size of the work group is all that qualifiers alone declare; it stands at its `in`.
abbrev pub sized_at : Qualified → Env → Option Place → Checked Env
sized_at q env None = Ok env
sized_at q env (Some place) = unless place ((E0701, states_none q) ∷ []) (Ok (with_size q place env))

unfoldable pub alone : List Qual → Declares
alone quals env = qualified env (role_alone env.scene.stage quals) quals >>= (λ q. sized_at q env q.within)
