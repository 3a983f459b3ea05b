-- What is known of the parts of `,`, of the arguments of built-in functions and constructors, and of their types.
use Rattle.std.specs.Prelude.{◌≡◌, ℕ, ◌+◌, ◌≤◌, ◌⊎◌, Bool, true, false, List, [], ◌∷◌, length, map, Option, Some, None}
use Rattle.gsl_types.specs.Known.{AreStructs, IsSound}
use Rattle.gsl_types.specs.declared.ty.Ty.{Ty}
use Rattle.gsl_values.specs.declared.function.Builtin.{Builtin}
use Rattle.gsl_values.specs.declared.value.Value.{Value}
use Rattle.gsl_tree.specs.Operations.{build_value, builtin_value, is_signed}
use Rattle.gsl_tree.specs.Shapes.{Shape, built_shape, of_shape, shape_of}
use Rattle.gsl_tree.specs.Values.{is_value_of}
use Rattle.gsl_tree.specs.declared.program.Program.{Program}
use Rattle.gsl_typed_law.specs.Given.{AreChoices, Gives}
use Rattle.gsl_meaning.specs.Expressions.{Meant, in_order, is_signed_first, last_of}
use Rattle.gsl_meaning.specs.Running.{Run, drawing, given, ◌>>=◌}
use Rattle.gsl_lower_expr.specs.Parts.{Lower}
use Rattle.gsl_lower_law_expr.specs.Known.{AllTyped, Giving}

-- Each of some parts gives its value, or is done where it has none.
abbrev pub EachGives : Giving → List Lower → List Meant → Type 0
EachGives Give [] [] = Unit {0}
EachGives Give [] (x ∷ xs) = ⊥
EachGives Give (e ∷ es) [] = ⊥
EachGives Give (e ∷ es) (x ∷ xs) = Give e.traits.splits e.ty e.value x.value × EachGives Give es xs

-- the type of the last of some parts
abbrev pub last_type : List Lower → Option Ty
last_type [] = None
last_type (e ∷ []) = Some e.ty
last_type (e ∷ next ∷ es) = last_type (next ∷ es)

-- what `,` does
abbrev pub sequence_means : List Meant → Run Value
sequence_means xs = in_order xs >>= (λ vs. given (last_of vs))

-- ---- built-in functions

-- the types of parts
abbrev pub types_of : List Lower → List Ty
types_of es = map (λ e. e.ty) es

-- The types of parts are those of what they mean.
abbrev pub SameTypes : List Lower → List Meant → Type 0
SameTypes es xs = types_of es ≡ map (λ x. x.ty) xs

-- Arguments are scalars and vectors of these shapes, of types that a program may have.
abbrev pub AreShaped : Program → List Lower → List Shape → Type 0
AreShaped p [] [] = Unit {0}
AreShaped p [] (shape ∷ shapes) = ⊥
AreShaped p (e ∷ es) [] = ⊥
AreShaped p (e ∷ es) (shape ∷ shapes) = (IsSound (length p.structs) e.ty × (shape_of e.ty ≡ Some shape)) × AreShaped p es shapes

-- whether the first argument is an `int` or a vector of them
abbrev pub first_signed : List Lower → Bool
first_signed [] = false
first_signed (e ∷ es) = is_signed e.ty

-- A built-in function takes arguments of these types, and gives values of another.
pub record Answers (p : Program) (which : Builtin) (args : List Lower) (ty : Ty) : Type 0 where
  pub are : AreStructs p.structs
  pub shapes : List Shape
  pub shaped : AreShaped p args shapes
  pub shape : Shape
  pub takes : built_shape which shapes ≡ Some shape
  pub gives : (vs : List Value) (choices : List ℕ) → AreChoices choices → AllTyped p args vs → Gives p.structs ty (builtin_value which (first_signed args) vs choices)

-- what a built-in function does
abbrev pub built_means : Builtin → List Meant → Run Value
built_means which xs = in_order xs >>= (λ vs. drawing (builtin_value which (is_signed_first xs) vs))

-- ---- constructors

-- how many components shapes have in a row
abbrev pub components : List Shape → ℕ
components [] = 0
components (shape ∷ shapes) = shape.1 + components shapes

-- A constructor of a scalar or vector takes arguments that have as many components, or one that fills all of them, and gives values of its type.
pub record Constructs (p : Program) (args : List Lower) (ty : Ty) : Type 0 where
  pub are : AreStructs p.structs
  pub shapes : List Shape
  pub shaped : AreShaped p args shapes
  pub shape : Shape
  pub some : 1 ≤ shape.1
  pub is : of_shape shape ≡ ty
  pub enough : (shape.1 ≤ components shapes) ⊎ (components shapes ≡ 1)
  pub gives : (vs : List Value) → AllTyped p args vs → is_value_of p.structs ty (build_value ty vs) ≡ true

-- A constructor of an array or a struct gives values of its type.
pub record Composes (p : Program) (args : List Lower) (ty : Ty) : Type 0 where
  pub whole : shape_of ty ≡ None
  pub gives : (vs : List Value) → AllTyped p args vs → is_value_of p.structs ty (build_value ty vs) ≡ true

-- what a constructor does
abbrev pub constructed_means : Ty → List Meant → Run Value
constructed_means ty xs = in_order xs >>= (λ vs. given (build_value ty vs))
