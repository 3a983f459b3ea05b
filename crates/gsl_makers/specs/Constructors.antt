-- Constructors and initialiser lists over typed parts, with the faults of their nodes (GLSL 4.50, 5.4 and 4.1.11).
use Rattle.std.specs.Prelude.{ℕ, Bool, true, false, not, ◌&&◌, ◌||◌, nat_eq, nat_le, List, [], ◌∷◌, map, length, slice_get, Option, Some, None, Ok}
use Rattle.std.specs.List.{list_any}
use Rattle.gsl_base.specs.Checked.{Checked, ◌>>=◌}
use Rattle.gsl_base.specs.declared.fault.Place.{Place}
use Rattle.gsl_base.specs.declared.fault.Code.TheVariants.{E0504, E0505, E0507, E0510, E0908}
use Rattle.gsl_types.specs.declared.ty.Member.{Member}
use Rattle.gsl_types.specs.declared.ty.Ty.{Ty}
use Rattle.gsl_types.specs.declared.ty.Ty.TheOpen.{Ty-F}
use Rattle.gsl_types.specs.declared.ty.Ty.TheViews.{out-Ty}
use Rattle.gsl_tree.specs.declared.expr.Expr.{Expr}
use Rattle.gsl_tree.specs.declared.expr.ExprKind.TheVariants as kind
use Rattle.gsl_tree.specs.Shapes.{Shape}
use Rattle.gsl_tree.specs.Weights.{height_of, most_high}
use Rattle.gsl_tree.specs.Expressions.{shapes_of, supplies, is_one_scalar, most_parts}
use Rattle.gsl_types.specs.Known.{is_plain}
use Rattle.gsl_typing.specs.declared.scene.Scene.{Scene}
use Rattle.gsl_typing.specs.declared.scene.Part.{Part}
use Rattle.gsl_typing.specs.Rows.{unless}
use Rattle.gsl_typing.specs.Scene.{type_in, made}
use Rattle.gsl_typing.specs.Conversions.{serves_as, as_type}
use Rattle.gsl_typing.specs.Uses.{is_unread}
use Rattle.gsl_makers.specs.Members.{members_in}

-- the expressions of parts
abbrev pub exprs_in : List Part → List Expr
exprs_in parts = map (λ (part : Part). part.expr) parts

-- ---- arguments that have a type of their own

-- each argument serves as an element
abbrev pub all_serve : Ty → List Part → Bool
all_serve element [] = true
all_serve element (arg ∷ args) = serves_as (type_in arg) element && all_serve element args

-- each argument serves as the member at its place, as far as there is one for each
abbrev pub each_serves : List Member → List Part → Bool
each_serves (member ∷ members) (arg ∷ args) = serves_as (type_in arg) member.ty && each_serves members args
each_serves _ _ = true

-- the arguments where elements are needed
abbrev pub as_elements : Ty → List Part → List Expr
as_elements element args = map (λ (arg : Part). as_type element arg.expr) args

-- the arguments where members are needed
abbrev pub as_members : List Member → List Part → List Expr
as_members (member ∷ members) (arg ∷ args) = as_type member.ty arg.expr ∷ as_members members args
as_members _ _ = []

-- ---- what a type asks of its arguments

-- the members of a struct by number
abbrev pub members_of : Scene → ℕ → List Member
members_of scene number = members_in (slice_get scene.structs number)

-- each argument of an array or a struct serves as its part
abbrev pub serve_kind : Scene → Ty-F Ty → List Part → Bool
serve_kind scene (Ty-F.Array element n) args = all_serve element args
serve_kind scene (Ty-F.Struct number) args = each_serves (members_of scene number) args
serve_kind scene _ args = true

abbrev pub is_one : Option (List Shape) → Bool
is_one (Some (shape ∷ [])) = true
is_one _ = false

abbrev pub supply : ℕ → Option (List Shape) → Bool
supply wanted None = false
supply wanted (Some shapes) = is_one_scalar shapes || supplies wanted shapes

-- The arguments are as many as there are parts; those of a vector supply its components, and a scalar has one argument.
abbrev pub count_kind : Scene → Ty-F Ty → List Part → Bool
count_kind scene (Ty-F.One s) args = is_one (shapes_of (exprs_in args))
count_kind scene (Ty-F.Vector s n) args = supply n (shapes_of (exprs_in args))
count_kind scene (Ty-F.Array element n) args = nat_eq (length args) n && not (nat_eq n 0)
count_kind scene (Ty-F.Struct number) args = nat_eq (length args) (length (members_of scene number)) && not (nat_eq (length args) 0)
count_kind scene _ args = true

-- the arguments as the tree has them: the components of scalars and vectors are converted by their constructor
abbrev pub converted_kind : Scene → Ty-F Ty → List Part → List Expr
converted_kind scene (Ty-F.Array element n) args = as_elements element args
converted_kind scene (Ty-F.Struct number) args = as_members (members_of scene number) args
converted_kind scene _ args = exprs_in args

-- each argument of an array or a struct serves as its part
unfoldable pub serve : Scene → Ty → List Part → Bool
serve scene t args = serve_kind scene (out-Ty t) args

-- the arguments are as many as the type asks for, and supply its components
unfoldable pub count : Scene → Ty → List Part → Bool
count scene t args = count_kind scene (out-Ty t) args

-- the arguments as the tree has them
unfoldable pub converted : Scene → Ty → List Part → List Expr
converted scene t args = converted_kind scene (out-Ty t) args

-- an argument that may not be read
unfoldable pub any_unread : Scene → List Part → Bool
any_unread scene args = list_any (is_unread scene) args

-- no `void` and no runtime array stands in the type
unfoldable pub plain : Ty → Bool
plain t = is_plain t

-- a type that is too high, or too many arguments
unfoldable pub is_too_large : Scene → Ty → List Part → Bool
is_too_large scene t args = not (nat_le (height_of scene.structs t) most_high) || not (nat_le (length args) most_parts)

-- the faults of a constructor of a type on these arguments, or of an initialiser list where that type is needed
unfoldable pub buildable : Scene → Place → Ty → List Part → Checked (Unit {0})
buildable scene place t args = unless place (
    (E0504, not (serve scene t args))
    ∷ (E0505, not (count scene t args))
    ∷ (E0507, any_unread scene args)
    ∷ (E0510, not (plain t))
    ∷ (E0908, is_too_large scene t args)
    ∷ []
    )
    (Ok tt)

-- a constructor of a type, or an initialiser list where that type is needed
unfoldable pub build : Scene → Place → Ty → List Part → Checked Part
build scene place t args = buildable scene place t args >>= (λ _. Ok (made place t (kind.Build (converted scene t args))))
