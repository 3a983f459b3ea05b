-- What expressions come to, in words of which each is one call of the code.
use Rattle.std.specs.Prelude.{ℕ, Bool, true, false, if◌then◌else◌, List, map, Option, Some, None}
use Rattle.gsl_types.specs.declared.ty.Scalar.TheVariants.{Int}
use Rattle.gsl_types.specs.declared.ty.Ty.{Ty}
use Rattle.gsl_types.specs.declared.ty.StructType.{StructType}
use Rattle.gsl_tree.specs.Operations.{has_fixed_length, length_of}
use Rattle.gsl_tree.specs.Trees.{type_of}
use Rattle.gsl_tree.specs.declared.expr.Expr.{Expr}
use Rattle.gsl_tree.specs.declared.expr.ExprKind.{ExprKind, out-ExprKind}
use Rattle.gsl_tree.specs.declared.expr.ExprKind.TheOpen.{ExprKind-F}
use Rattle.gsl_tree.specs.declared.unit.Interface.{Interface}
use Rattle.gsl_tree.specs.declared.unit.Prototype.{Prototype}
use Rattle.gsl_types.specs.declared.ty.Direction.{Direction}
use Rattle.gsl_lower_expr.specs.Calls.{calling, passing, passing_all}
use Rattle.gsl_lower_expr.specs.declared.calls.Passed.{Passed}
use Rattle.gsl_lower_places.specs.declared.reached.Part.{Part}
use Rattle.gsl_lower_places.specs.declared.reached.Part.TheVariants.{Fixed, By}
use Rattle.gsl_lower_places.specs.declared.reached.Reached.{Reached}
use Rattle.gsl_lower_values.specs.Types.{scalar_constant}
use Rattle.gsl_lower_holders.specs.Flow.{Emit, ◌>>=◌, given, lacking, lift}
use Rattle.gsl_lower_expr.specs.Lowering.{Setting, kind_lowers, lowers}
use Rattle.gsl_lower_expr.specs.Parts.{Lower, block_length, keeps, loose_value, reads, scalar_of, sequence}
use Rattle.gsl_lower_expr.specs.declared.found.Found.{Found}
use Rattle.gsl_lower_expr.specs.declared.found.Found.TheVariants.{Place, Value}

abbrev pub setting_of : List StructType → List Interface → List Prototype → Setting
setting_of structs interfaces prototypes = record { structs = structs; interfaces = interfaces; call = calling structs prototypes }

-- whether an expression leads to a variable or a part of one
abbrev pub leads : {K E : Type 0} → ExprKind-F K E → Bool
leads (ExprKind-F.Local number) = true
leads (ExprKind-F.Global number) = true
leads (ExprKind-F.Param number) = true
leads (ExprKind-F.BlockMember block number) = true
leads (ExprKind-F.Interface number) = true
leads (ExprKind-F.Member a number) = true
leads (ExprKind-F.Index a i) = true
leads (ExprKind-F.Swizzle a lanes) = true
leads _ = false

abbrev pub led : Emit Reached → Emit Found
led run = run >>= (λ r. given (Place r))

abbrev pub gave : Emit ℕ → Emit Found
gave run = run >>= (λ v. given (Value v))

abbrev pub found_by : Bool → Lower → Emit Found
found_by true m = led m.reach
found_by false m = gave m.value

-- what is of a kind leads to, or its value
unfoldable pub finds : Setting → ExprKind → Ty → Emit Found
finds s kind ty = found_by (leads (out-ExprKind kind)) (kind_lowers s kind ty)

-- the value of what was found
abbrev pub valued_from : List StructType → Ty → Found → Emit ℕ
valued_from structs ty (Place r) = reads structs ty r
valued_from structs ty (Value v) = given v

-- what was found, as something that is read or stored
abbrev pub reached_from : Ty → Found → Emit Reached
reached_from ty (Place r) = given r
reached_from ty (Value v) = loose_value ty v

unfoldable pub evaluates : Setting → Expr → Emit ℕ
evaluates s e = (lowers s e).value

unfoldable pub reaches : Setting → Expr → Emit Reached
reaches s e = (lowers s e).reach

unfoldable pub lengths : Setting → Expr → Emit ℕ
lengths s e = (lowers s e).length

-- the count of a runtime array, which is a member of a block
abbrev pub length_from : {K E : Type 0} → ExprKind-F K E → Emit ℕ
length_from (ExprKind-F.BlockMember block number) = block_length block number
length_from _ = lacking

-- what `.length()` counts of an expression of a type
abbrev pub counted_from : {K E : Type 0} → ExprKind-F K E → Ty → Emit ℕ
counted_from layer ty = if has_fixed_length ty then lift (scalar_constant Int (length_of ty)) else length_from layer

-- values from left to right, each kept where it has to wait
unfoldable pub keeps_all : Setting → List Expr → Emit (List ℕ)
keeps_all s es = keeps (map (lowers s) es)

-- each in its turn
unfoldable pub sequence_of : Setting → ℕ → List Expr → Emit ℕ
sequence_of s last es = sequence last (map (lowers s) es)

abbrev pub index_of : Setting → Expr → Option ℕ → Emit Part
index_of s i (Some number) = given (Fixed number)
index_of s i None = evaluates s i >>= (λ id. given (By (scalar_of (type_of i)) id))

-- an argument
unfoldable pub passes : Setting → Bool → Direction → Ty → Expr → Emit Passed
passes s waits way t e = passing s.structs waits way t (lowers s e)

-- the arguments of a call
unfoldable pub passes_all : Setting → List Expr → List (Direction × Ty) → Emit (List Passed)
passes_all s es params = passing_all s.structs (map (lowers s) es) params

-- a call of the function of a head
unfoldable pub calls : Setting → ℕ → List Expr → Ty → Emit ℕ
calls s number es t = s.call number (map (lowers s) es) t
