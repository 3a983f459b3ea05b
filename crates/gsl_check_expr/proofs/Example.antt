-- Expressions with the typed trees or the faults that they stand for, so that a wrong definition is seen.
use Rattle.std.proofs.Common.{◌≡◌, refl, ap, ◌∙◌, ℕ, true, false, List, [], ◌∷◌, Some, None, Ok}
use Rattle.gsl_base.specs.Checked.{Checked}
use Rattle.gsl_base.specs.declared.fault.Place.{Place}
use Rattle.gsl_base.specs.declared.fault.Code.TheVariants.{E0401, E0402, E0505, E0603}
use Rattle.gsl_base.specs.declared.stage.Stage.TheVariants.{Compute}
use Rattle.gsl_syntax.specs.declared.expr.Expr.{Expr as Syntax}
use Rattle.gsl_syntax.specs.declared.expr.Expr.TheVariants as e
use Rattle.gsl_types.specs.declared.ty.Scalar.TheVariants.{Int, Uint}
use Rattle.gsl_types.specs.declared.ty.Ty.{Ty}
use Rattle.gsl_types.specs.declared.ty.Ty.TheVariants as ty
use Rattle.gsl_types.specs.declared.ty.Ty.TheVariants.{outs-One, outs-Vector, outs-Array}
use Rattle.gsl_values.specs.declared.value.Value.TheVariants.{Word}
use Rattle.gsl_names.specs.declared.entry.Entry.TheVariants.{Local}
use Rattle.gsl_tree.specs.declared.expr.ExprKind.TheVariants as kind
use Rattle.gsl_tree.specs.Trees.{typed}
use Rattle.gsl_typing.specs.declared.scene.Part.{Part}
use Rattle.gsl_typing.specs.Scene.{made}
use Rattle.gsl_typing.specs.Rows.{fault}
use Rattle.gsl_check_expr.specs.declared.env.Env.{Env}
use Rattle.gsl_check_expr.specs.declared.writing.Written.TheVariants.{Whole, Open}
use Rattle.gsl_check_expr.specs.Sizes.{Bracket, dimensions}
use Rattle.gsl_check_expr.specs.Callees.{Name}
use Rattle.gsl_check_expr.specs.Written.{base_type, written_by, declared}
use Rattle.gsl_check_expr.specs.Initialisers.{part_type, part_by, listed, listed_by, sized_as, array_as}
use Rattle.gsl_check_expr.specs.Named.{named, literal}
use Rattle.gsl_check_expr.specs.Expressions.{Answer, expression}
use Rattle.gsl_check_expr.proofs.Steps.{of-Name, of-Paren, of-Unsigned}

abbrev here : Place
here = record { unit = 0; line = 1 }

abbrev int : Ty
int = ty.One Int

abbrev uint : Ty
uint = ty.One Uint

-- `x` is a local variable, and `k` one that is `const`
abbrev env : Env
env = record {
  names = ((120 ∷ [], Local 0 false) ∷ (107 ∷ [], Local 1 true) ∷ []) ∷ [];
  scene = record {
    stage = Compute;
    structs = [];
    globals = [];
    blocks = [];
    interfaces = [];
    prototypes = [];
    sizes = [];
    params = [];
    locals = int ∷ int ∷ [];
    consts = record { locals = []; globals = [] };
  };
  heights = [];
}

abbrev x : Syntax
x = e.Name here (120 ∷ [])

abbrev k : Syntax
k = e.Name here (107 ∷ [])

abbrev value_of : Answer → Checked Part
value_of a = a.value

-- a name that is not declared
unknown : expression env (e.Name here (121 ∷ [])) ≡ fault here E0401
unfolding named
unknown = ap value_of (of-Name env here (121 ∷ []))

-- a local variable, which the tree shows to be an l-value
local : expression env x ≡ Ok (record { expr = typed here int (kind.Local 0); fixed = false })
unfolding named
local = ap value_of (of-Name env here (120 ∷ []))

-- one that is `const` is kept so beside its tree, in brackets too
kept : expression env (e.Paren here k) ≡ Ok (record { expr = typed here int (kind.Local 1); fixed = true })
unfolding named
kept = ap value_of (of-Paren env here k) ∙ ap value_of (of-Name env here (107 ∷ []))

-- a literal with a suffix
suffixed : expression env (e.Unsigned here 7) ≡ Ok (made here uint (kind.Const (Word 7)))
unfolding literal
suffixed = ap value_of (of-Unsigned env here 7)

-- ---- types

-- brackets with a size
abbrev of_size : ℕ → Bracket
of_size n = record { place = here; size = Ok (Some n) }

-- brackets without one
abbrev left_open : Bracket
left_open = record { place = here; size = Ok None }

-- `int[2] a[3]` has three elements of `int[2]`
three_of_two : declared (of_size 3 ∷ []) (Whole (ty.Array int 2)) ≡ Ok (Whole (ty.Array (ty.Array int 2) 3))
unfolding declared dimensions
three_of_two = refl

-- `int a[][2]` is an array of `int[2]` whose size is left out, and `int a[2][]` lacks one
left_out : declared (left_open ∷ of_size 2 ∷ []) (Whole int) ≡ Ok (Open here (ty.Array int 2))
unfolding declared dimensions
left_out = refl

inner_left_out : declared (of_size 2 ∷ left_open ∷ []) (Whole int) ≡ fault here E0603
unfolding declared dimensions
inner_left_out = refl

-- `int[] a[3]` lacks the size of its elements
elements_left_out : declared (of_size 3 ∷ []) (Open here int) ≡ fault here E0603
unfolding declared dimensions
elements_left_out = refl

-- a variable is no type
no_type : written_by env (record { place = here; base = Name (120 ∷ []); brackets = [] }) ≡ fault here E0402
unfolding written_by dimensions base_type
no_type = refl

-- ---- initialisers

-- a part of a list of a vector is needed as a component
component : part_type env.scene (ty.Vector Uint 3) 2 ≡ uint
unfolding part_type
component = ap (λ layer. part_by env.scene layer 2) (outs-Vector Uint 3)

-- a scalar has no list
no_list : (parts : List Part) → listed env.scene here int parts ≡ fault here E0505
unfolding listed
no_list parts = ap (λ layer. listed_by env.scene here int layer parts) (outs-One Int)

-- an array whose size is left out has that of its value
as_long : sized_as (Open here uint) (ty.Array int 3) ≡ Some (ty.Array uint 3)
as_long = ap (array_as uint) (outs-Array int 3)
