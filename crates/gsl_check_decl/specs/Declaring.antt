-- What is asked of whatever is declared: of its name, and of its type.
use Rattle.std.specs.Prelude.{ℕ, Bool, true, false, not, ◌&&◌, is_some, nat_le, List, [], ◌∷◌, take, length, map}
use Rattle.std.specs.Str.{bytes_eq}
use Rattle.gsl_base.specs.Checked.{Checked, ◌>>=◌}
use Rattle.gsl_syntax.specs.declared.expr.Dim.{Dim}
use Rattle.gsl_types.specs.Known.{sound, is_plain}
use Rattle.gsl_types.specs.declared.ty.Ty.{Ty}
use Rattle.gsl_types.specs.declared.ty.Ty.TheVariants as ty
use Rattle.gsl_overload.specs.Identity.{identical}
use Rattle.gsl_tree.specs.Weights.{height_of, most_high}
use Rattle.gsl_names.specs.Scopes.{find_here}
use Rattle.gsl_typing.specs.declared.scene.Scene.{Scene}
use Rattle.gsl_check_expr.specs.declared.env.Env.{Env}
use Rattle.gsl_check_expr.specs.declared.writing.Written.{Written}
use Rattle.gsl_check_expr.specs.Expressions.{bracket}
use Rattle.gsl_check_expr.specs.Written.{declared, whole_type}

abbrev pub is_empty : {A : Type 0} → List A → Bool
is_empty [] = true
is_empty (x ∷ xs) = false

-- ---- names (GLSL 4.50, 3.7 and 4.2.2)

-- a name that the innermost scope has already
unfoldable pub is_declared : Env → List ℕ → Bool
is_declared env name = is_some (find_here env.names name)

-- a name that begins with `gl_`
unfoldable pub is_reserved : List ℕ → Bool
is_reserved name = bytes_eq (take 3 name) (103 ∷ 108 ∷ 95 ∷ [])

-- ---- types

abbrev pub is_void : Ty → Bool
is_void t = identical t ty.Void

-- a type that variables and members may have: no `void` and no array without a size stands in it, and all of its parts are there
unfoldable pub may_be_had : Scene → Ty → Bool
may_be_had scene t = is_plain t && sound (length scene.structs) t

-- a type that is higher than types may be
unfoldable pub is_high : Scene → Ty → Bool
is_high scene t = not (nat_le (height_of scene.structs t) most_high)

-- the type of a name that is declared with brackets, which has all of its sizes
abbrev pub declared_whole : Env → List Dim → Written → Checked Ty
declared_whole env dims base = declared (map (bracket env) dims) base >>= whole_type
