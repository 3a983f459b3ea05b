-- What expressions come to, in words of which each is one call of the code.
use Rattle.std.specs.Prelude.{ℕ, Bool, true, false, if◌then◌else◌, List, [], ◌∷◌, ◌++◌, map}
use Rattle.gsl_types.specs.declared.ty.Direction.{Direction}
use Rattle.gsl_types.specs.declared.ty.Ty.{Ty}
use Rattle.gsl_types.specs.declared.ty.StructType.{StructType}
use Rattle.gsl_values.specs.declared.op.BinaryOp.{BinaryOp}
use Rattle.gsl_values.specs.declared.value.Value.{Value}
use Rattle.gsl_values.specs.declared.value.Value.TheVariants.{Word}
use Rattle.gsl_tree.specs.declared.expr.Expr.{Expr, out-Expr}
use Rattle.gsl_tree.specs.declared.expr.ExprKind.{ExprKind, out-ExprKind}
use Rattle.gsl_tree.specs.declared.expr.ExprKind.TheOpen.{ExprKind-F}
use Rattle.gsl_tree.specs.declared.expr.StepOp.{StepOp}
use Rattle.gsl_tree.specs.Operations.{binary_value, has_fixed_length, is_postfix, is_signed, length_of, step_value}
use Rattle.gsl_tree.specs.Trees.{type_of}
use Rattle.gsl_meaning.specs.State.{State}
use Rattle.gsl_meaning.specs.Accesses.{Access, Loose, read, whole}
use Rattle.gsl_meaning.specs.Running.{Ran, Run, Got, Ends, Strays, Goes, given, ◌>>=◌, drawing, storing, told_by}
use Rattle.gsl_meaning.specs.Expressions.{Meant, Passed, Setting, block_parts, in_order, kind_means, means, passing, passing_all}
use Rattle.gsl_perform.specs.declared.parts.Held.{Held}
use Rattle.gsl_perform.specs.declared.world.Found.{Found}
use Rattle.gsl_perform.specs.declared.world.Found.TheVariants.{Place, Value as Valued}

-- whether an expression leads to a variable or a part of one
abbrev pub leads : {K E : Type 0} → ExprKind-F K E → Bool
leads (ExprKind-F.Local number) = true
leads (ExprKind-F.Global number) = true
leads (ExprKind-F.Param number) = true
leads (ExprKind-F.BlockMember block number) = true
leads (ExprKind-F.Interface number) = true
leads (ExprKind-F.Member a number) = true
leads (ExprKind-F.Index a i) = true
leads (ExprKind-F.Swizzle a lanes) = true
leads _ = false

abbrev pub led : Run Access → Run Found
led run = run >>= (λ a. given (Place a))

abbrev pub gave : Run Value → Run Found
gave run = run >>= (λ v. given (Valued v))

abbrev pub found_by : Bool → Meant → Run Found
found_by true m = led m.access
found_by false m = gave m.value

-- what is of a kind leads to, or its value
unfoldable pub finds : Setting → ExprKind → Ty → Run Found
finds setting kind ty = found_by (leads (out-ExprKind kind)) (kind_means setting kind ty)

-- the value of what was found
abbrev pub valued_from : List StructType → Ty → Found → State → Value
valued_from structs ty (Place a) state = read structs ty a state
valued_from structs ty (Valued v) state = v

-- what was found, as something that is accessed
abbrev pub access_from : Found → Access
access_from (Place a) = a
access_from (Valued v) = whole (Loose v)

unfoldable pub evaluates : Setting → Expr → Run Value
evaluates setting e = (means setting e).value

unfoldable pub accesses : Setting → Expr → Run Access
accesses setting e = (means setting e).access

-- the values of expressions, from left to right
unfoldable pub evaluates_all : Setting → List Expr → Run (List Value)
evaluates_all setting es = in_order (map (means setting) es)

-- the arguments from left to right
unfoldable pub passes_all : Setting → List (Direction × Ty) → List Expr → Run (List Passed)
passes_all setting params args = passing_all setting.structs params (map (means setting) args)

unfoldable pub passes : Setting → Direction → Ty → Expr → Run Passed
passes setting direction ty arg = passing setting.structs direction ty (means setting arg)

abbrev pub signed_first : List Expr → Bool
signed_first [] = false
signed_first (e ∷ es) = is_signed (type_of e)

-- what is given behind items that were given before
abbrev pub with_front : {A : Type 0} → List A → Ran (List A) → Ran (List A)
with_front front (Got items state units) = Got (front ++ items) state units
with_front front (Ends state) = Ends state
with_front front Strays = Strays
with_front front Goes = Goes

-- the parts that an expression of a kind has; a runtime array is a member of a block
abbrev pub parts_from : {K E : Type 0} → ExprKind-F K E → State → ℕ
parts_from (ExprKind-F.BlockMember block number) state = block_parts block number state
parts_from _ state = 0

unfoldable pub parts_of : Setting → Expr → State → ℕ
parts_of setting e = (means setting e).parts

-- what an expression leads to, with the value that is read there
unfoldable pub holds : Setting → Expr → Run Held
holds setting e = accesses setting e >>= (λ x. told_by (λ state. record { access = x; value = read setting.structs (type_of e) x state }))

-- `op=` on what an access led to and read
unfoldable pub updates : Held → BinaryOp → Bool → Value → Run Value
updates held op signed y = drawing (binary_value op signed held.value y) >>= storing held.access

-- a step on what an access led to and read
unfoldable pub steps : Held → StepOp → Run Value
steps held op = storing held.access (step_value op held.value) >>= (λ new. given (if is_postfix op then held.value else new))

-- how many parts `.length()` counts
abbrev pub counts : Expr → State → Value
counts e state = if has_fixed_length (type_of e) then Word (length_of (type_of e)) else Word (parts_from (out-ExprKind (out-Expr e).kind) state)
