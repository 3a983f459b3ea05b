-- What a call of a function of the program is lowered to, over what its arguments are lowered to (GLSL 4.50, 6.1.1; SPIR-V 1.0, 3.32.9). Each
-- argument goes by a pointer to a holder of its own; what comes back goes from there to where the argument leads.
use Rattle.std.specs.Prelude.{ℕ, Bool, true, false, List, [], ◌∷◌, map, slice_get, Option, Some, None}
use Rattle.gsl_instr.specs.declared.op.TheConstants as op
use Rattle.gsl_types.specs.declared.ty.Direction.{Direction}
use Rattle.gsl_types.specs.declared.ty.Direction.TheVariants.{In, Out, InOut}
use Rattle.gsl_types.specs.declared.ty.StructType.{StructType}
use Rattle.gsl_types.specs.declared.ty.Ty.{Ty}
use Rattle.gsl_types.specs.declared.ty.Ty.TheOpen.{Ty-F}
use Rattle.gsl_types.specs.declared.ty.Ty.TheViews.{out-Ty}
use Rattle.gsl_tree.specs.Shapes.{Shape, shape_of}
use Rattle.gsl_tree.specs.Weights.{params_of}
use Rattle.gsl_tree.specs.declared.unit.Prototype.{Prototype}
use Rattle.gsl_spv.specs.Calls as call
use Rattle.gsl_spv.specs.declared.plain.PlainConst.TheVariants as of
use Rattle.gsl_spv.specs.declared.plain.PlainType.TheVariants as plain
use Rattle.gsl_lower_values.specs.Building.{id_by}
use Rattle.gsl_lower_values.specs.Constructors.{operand}
use Rattle.gsl_lower_values.specs.Operators.{converted}
use Rattle.gsl_lower_places.specs.declared.reached.Reached.{Reached}
use Rattle.gsl_lower_holders.specs.Flow.{Emit, ◌>>=◌, given, giving_here, lift, told, type_id}
use Rattle.gsl_lower_holders.specs.Waiting.{fetch_reached, hold_reached, keep, take_back}
use Rattle.gsl_lower_expr.specs.declared.calls.Passed.{Passed}
use Rattle.gsl_lower_expr.specs.Parts.{Lower, any_splits, probe, reads, scalar_of, stores}

-- zeros of a type
unfoldable pub zeros : Ty → Emit ℕ
zeros t = type_id t >>= (λ type. lift (id_by (call.constant (of.Null type))))

-- ---- arguments

abbrev pub passed : ℕ → Bool → Option Reached → Passed
passed pointer waits back = record { pointer = pointer; waits = waits; back = back }

unfoldable pub going_in : ℕ → Emit Passed
going_in v = keep v >>= (λ h. given (passed h false None))

-- What an argument leads to is found once, in its turn: it waits where later arguments have labels.
unfoldable pub coming_back : Bool → Reached → ℕ → Emit Passed
coming_back waits r v = hold_reached waits r >>= (λ kept. keep v >>= (λ h. given (passed h waits (Some kept))))

-- an `out` parameter begins as zeros
unfoldable pub passed_out : List StructType → Bool → Ty → Ty → Reached → Emit Passed
passed_out structs waits t arg r = lift (probe structs true arg r) >>= (λ done. zeros t >>= coming_back waits r)

unfoldable pub passed_both : List StructType → Bool → Ty → Reached → Emit Passed
passed_both structs waits arg r = reads structs arg r >>= coming_back waits r

abbrev pub passing : List StructType → Bool → Direction → Ty → Lower → Emit Passed
passing structs waits In t arg = arg.value >>= going_in
passing structs waits Out t arg = arg.reach >>= passed_out structs waits t arg.ty
passing structs waits InOut t arg = arg.reach >>= passed_both structs waits arg.ty

-- the arguments from left to right
unfoldable pub passing_all : List StructType → List Lower → List (Direction × Ty) → Emit (List Passed)
passing_all structs [] params = given []
passing_all structs (arg ∷ args) [] = given []
passing_all structs (arg ∷ args) (param ∷ params) =
    passing structs (any_splits args) param.0 param.1 arg >>= (λ p. passing_all structs args params >>= (λ ps. given (p ∷ ps)))

-- ---- what comes back

-- a value of a parameter's type as one of the argument's
abbrev pub as_argument : Ty → Option Shape → ℕ → Emit ℕ
as_argument arg None v = given v
as_argument arg (Some shape) v = lift (converted (scalar_of arg) (operand shape v))

abbrev pub back_to : List StructType → Ty → Ty → ℕ → Bool → Reached → Emit (Unit {0})
back_to structs t arg h waits kept =
    type_id t >>= (λ type. take_back h type >>= (λ v. as_argument arg (shape_of t) v >>= (λ word. fetch_reached waits kept >>= (λ r. stores structs arg r word))))

abbrev pub back_if : List StructType → Ty → Ty → ℕ → Bool → Option Reached → Emit (Unit {0})
back_if structs t arg h waits None = given tt
back_if structs t arg h waits (Some kept) = back_to structs t arg h waits kept

unfoldable pub back : List StructType → Ty → Ty → Passed → Emit (Unit {0})
back structs t arg p = back_if structs t arg p.pointer p.waits p.back

-- from left to right
unfoldable pub all_back : List StructType → List Passed → List (Direction × Ty) → List Ty → Emit (Unit {0})
all_back structs [] params args = given tt
all_back structs (p ∷ ps) [] args = given tt
all_back structs (p ∷ ps) (param ∷ params) [] = given tt
all_back structs (p ∷ ps) (param ∷ params) (arg ∷ args) = back structs param.1 arg p >>= (λ done. all_back structs ps params args)

-- ---- calls

abbrev pub result_by : Ty → Ty-F Ty → Emit ℕ
result_by t Ty-F.Void = lift (id_by (call.plain_type plain.Void))
result_by t layer = type_id t

-- the type of what a function of this result gives
unfoldable pub result_type : Ty → Emit ℕ
result_type t = result_by t (out-Ty t)

abbrev pub pointers : List Passed → List ℕ
pointers ps = map (λ (p : Passed). p.pointer) ps

abbrev pub called_by : ℕ → Ty → List Passed → Emit ℕ
called_by number t ps = told (λ place. place.functions) number >>= (λ f. result_type t >>= giving_here op.FUNCTION_CALL (f ∷ pointers ps))

-- a function on arguments of these types that were passed, and what comes back of them
unfoldable pub called_with : List StructType → ℕ → List (Direction × Ty) → List Ty → Ty → List Passed → Emit ℕ
called_with structs number params args t ps = called_by number t ps >>= (λ id. all_back structs ps params args >>= (λ done. given id))

abbrev pub tys : List Lower → List Ty
tys args = map (λ (arg : Lower). arg.ty) args

-- a call of the function of a head
abbrev pub calling : List StructType → List Prototype → ℕ → List Lower → Ty → Emit ℕ
calling structs prototypes number args t =
    let params = params_of (slice_get prototypes number) in
    passing_all structs args params >>= called_with structs number params (tys args) t
