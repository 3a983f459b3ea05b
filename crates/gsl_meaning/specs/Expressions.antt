-- What expressions do (GLSL 4.50, chapter 5 and 6.1).
use Rattle.std.specs.Prelude.{ℕ, Bool, false, ◌==◌, if◌then◌else◌, List, [], ◌∷◌, length, slice_get, Option, Some, None}
use Rattle.gsl_types.specs.declared.ty.Direction.{Direction}
use Rattle.gsl_types.specs.declared.ty.Direction.TheVariants.{In, Out, InOut}
use Rattle.gsl_types.specs.declared.ty.Ty.{Ty}
use Rattle.gsl_types.specs.declared.ty.StructType.{StructType}
use Rattle.gsl_values.specs.Vectors.{components as picked}
use Rattle.gsl_values.specs.declared.value.Value.{Value}
use Rattle.gsl_values.specs.declared.value.Value.TheVariants.{Word}
use Rattle.gsl_tree.specs.declared.expr.Expr.{Expr}
use Rattle.gsl_tree.specs.declared.expr.ExprKind.{ExprKind}
use Rattle.gsl_tree.specs.declared.expr.ExprKind.TheOpen.{ExprKind-F, Expr-F}
use Rattle.gsl_tree.specs.declared.expr.ExprKind.TheFolds.{fold-Expr, fold-ExprKind}
use Rattle.gsl_tree.specs.declared.expr.StageVar.{StageVar}
use Rattle.gsl_tree.specs.declared.unit.Prototype.{Prototype}
use Rattle.gsl_tree.specs.Operations.{unary_value, binary_value, decides, logic_word, step_value, is_postfix, build_value, builtin_value, value_at, has_fixed_length, length_of, is_signed}
use Rattle.gsl_tree.specs.Values.{word_in, parts_in, zero_value}
use Rattle.gsl_tree.specs.Weights.{params_of}
use Rattle.gsl_meaning.specs.State.{State}
use Rattle.gsl_meaning.specs.Accesses.{Global, Block, Interface, Param, Local, Loose, Access, whole, member_of, swizzle_of, nothing, root_value, read, stored}
use Rattle.gsl_meaning.specs.Running.{Run, given, ◌>>=◌, told_by, drawing, storing, indexing}

-- What a call gives: its value, and the values of the parameters at its end.
pub record Called : Type 0 where
  pub value : Value
  pub params : List Value

-- What the calls of functions do, by the numbers of their heads and the values of their arguments.
abbrev pub Calls : Type 0
Calls = ℕ → List Value → Run Called

-- What expressions stand in: the struct types and the heads of functions of the program, the built-in variables, and what calls do.
pub record Setting : Type 0 where
  pub structs : List StructType
  pub prototypes : List Prototype
  pub stage_value : StageVar → Value
  pub call : Calls

-- What an expression of a type does: as something that is accessed, and as a value. The parts that it has are counted where they are, and
-- nothing is evaluated.
pub record Meant : Type 0 where
  pub ty : Ty
  pub access : Run Access
  pub value : Run Value
  pub parts : State → ℕ

abbrev pub no_parts : State → ℕ
no_parts state = 0

-- an expression that gives a value
abbrev pub valued : Ty → Run Value → Meant
valued ty value = record { ty = ty; access = value >>= (λ v. given (whole (Loose v))); value = value; parts = no_parts }

-- An expression that leads to a variable or to a part of one: its indexes are evaluated and tested before anything is read.
abbrev pub accessed : List StructType → Ty → Run Access → Meant
accessed structs ty access = record { ty = ty; access = access; value = access >>= (λ a. told_by (read structs ty a)); parts = no_parts }

abbrev pub member_root : ℕ → ℕ → Access
member_root block number = record { root = Block block; path = number ∷ []; picked = None }

abbrev pub block_parts : ℕ → ℕ → State → ℕ
block_parts block number state = length (parts_in (value_at (root_value (Block block) state) (number ∷ [])))

-- the values of expressions, from left to right
abbrev pub in_order : List Meant → Run (List Value)
in_order [] = given []
in_order (e ∷ es) = e.value >>= (λ v. in_order es >>= (λ vs. given (v ∷ vs)))

abbrev pub is_signed_first : List Meant → Bool
is_signed_first [] = false
is_signed_first (e ∷ es) = is_signed e.ty

abbrev pub last_of : List Value → Value
last_of [] = nothing
last_of (v ∷ []) = v
last_of (v ∷ next ∷ vs) = last_of (next ∷ vs)

-- how many components or elements `.length()` counts; of a runtime array, the elements that its buffer has
abbrev pub counted : Meant → State → Value
counted a state = if has_fixed_length a.ty then Word (length_of a.ty) else Word (a.parts state)

-- ---- arguments

-- The value with which a parameter begins, and where its value goes back to.
pub record Passed : Type 0 where
  pub value : Value
  pub back : Option Access

-- An `out` parameter begins as zeros. What an `out` or `inout` argument leads to is found once, in its turn.
abbrev pub passing : List StructType → Direction → Ty → Meant → Run Passed
passing structs In ty arg = arg.value >>= (λ v. given (record { value = v; back = None }))
passing structs Out ty arg = arg.access >>= (λ a. given (record { value = zero_value structs ty; back = Some a }))
passing structs InOut ty arg = arg.access >>= (λ a. told_by (λ state. record { value = read structs arg.ty a state; back = Some a }))

-- the arguments from left to right
abbrev pub passing_all : List StructType → List (Direction × Ty) → List Meant → Run (List Passed)
passing_all structs (param ∷ params) (arg ∷ args) = passing structs param.0 param.1 arg >>= (λ p. passing_all structs params args >>= (λ ps. given (p ∷ ps)))
passing_all structs _ _ = given []

abbrev pub values_of : List Passed → List Value
values_of [] = []
values_of (p ∷ ps) = p.value ∷ values_of ps

abbrev pub put_back : Option Access → Value → State → State
put_back None v state = state
put_back (Some a) v state = stored a v state

-- `out` and `inout` parameters go back from left to right
abbrev pub all_back : List Passed → List Value → State → State
all_back (p ∷ ps) (v ∷ vs) state = all_back ps vs (put_back p.back v state)
all_back _ _ state = state

abbrev pub returning : List Passed → Called → Run Value
returning passed called state units = given called.value (all_back passed called.params state) units

abbrev pub calling : Setting → ℕ → List Meant → Run Value
calling setting number args =
    passing_all setting.structs (params_of (slice_get setting.prototypes number)) args >>= (λ passed. setting.call number (values_of passed) >>= returning passed)

-- ---- operators

abbrev pub binary : Ty → Run Value → Run Value → (Value → Value → List ℕ → Value × List ℕ) → Run Value
binary ty a b apply = a >>= (λ x. b >>= (λ y. drawing (apply x y)))

-- `op=` reads the old value before the right side
abbrev pub updating : List StructType → Meant → Meant → (Value → Value → List ℕ → Value × List ℕ) → Run Value
updating structs a b apply = a.access >>= (λ x. told_by (read structs a.ty x) >>= (λ old. b.value >>= (λ y. drawing (apply old y) >>= storing x)))

abbrev pub stepping : List StructType → Meant → (Value → Value) → Bool → Run Value
stepping structs a next postfix =
    a.access >>= (λ x. told_by (read structs a.ty x) >>= (λ old. storing x (next old) >>= (λ new. given (if postfix then old else new))))

-- ---- every kind of expression

abbrev pub means_by : Setting → ExprKind-F (Ty → Meant) Meant → Ty → Meant
means_by setting (ExprKind-F.Const v) ty = valued ty (given v)
means_by setting (ExprKind-F.Local number) ty = accessed setting.structs ty (given (whole (Local number)))
means_by setting (ExprKind-F.Global number) ty = accessed setting.structs ty (given (whole (Global number)))
means_by setting (ExprKind-F.Param number) ty = accessed setting.structs ty (given (whole (Param number)))
means_by setting (ExprKind-F.BlockMember block number) ty = record (accessed setting.structs ty (given (member_root block number))) { parts = block_parts block number }
means_by setting (ExprKind-F.Stage var) ty = valued ty (given (setting.stage_value var))
means_by setting (ExprKind-F.Interface number) ty = accessed setting.structs ty (given (whole (Interface number)))
means_by setting (ExprKind-F.Member a number) ty = accessed setting.structs ty (a.access >>= (λ x. given (member_of x number)))
means_by setting (ExprKind-F.Index a i) ty = accessed setting.structs ty (a.access >>= (λ x. i.value >>= (λ v. indexing x (word_in v))))
means_by setting (ExprKind-F.Swizzle a lanes) ty = accessed setting.structs ty (a.access >>= (λ x. given (swizzle_of x (picked lanes))))
means_by setting (ExprKind-F.Length a) ty = valued ty (told_by (counted a))
means_by setting (ExprKind-F.Unary op a) ty = valued ty (a.value >>= (λ v. given (unary_value op v)))
means_by setting (ExprKind-F.Binary op a b) ty = valued ty (a.value >>= (λ x. b.value >>= (λ y. drawing (binary_value op (is_signed a.ty) x y))))
means_by setting (ExprKind-F.Logic op a b) ty =
    valued ty (a.value >>= (λ x. if decides op (word_in x) then given x else b.value >>= (λ y. given (Word (logic_word op (word_in x) (word_in y))))))
means_by setting (ExprKind-F.Choose test a b) ty = valued ty (test.value >>= (λ t. if word_in t == 0 then b.value else a.value))
means_by setting (ExprKind-F.Assign a b) ty = valued ty (a.access >>= (λ x. b.value >>= storing x))
means_by setting (ExprKind-F.Update op a b) ty = valued ty (updating setting.structs a b (binary_value op (is_signed a.ty)))
means_by setting (ExprKind-F.Step op a) ty = valued ty (stepping setting.structs a (step_value op) (is_postfix op))
means_by setting (ExprKind-F.Call number args) ty = valued ty (calling setting number args)
means_by setting (ExprKind-F.Built which args) ty = valued ty (in_order args >>= (λ vs. drawing (builtin_value which (is_signed_first args) vs)))
means_by setting (ExprKind-F.Build args) ty = valued ty (in_order args >>= (λ vs. given (build_value ty vs)))
means_by setting (ExprKind-F.Convert a) ty = valued ty a.value
means_by setting (ExprKind-F.Comma items) ty = valued ty (in_order items >>= (λ vs. given (last_of vs)))

abbrev pub typed_by : Expr-F (Ty → Meant) Meant → Meant
typed_by e = e.kind e.ty

-- What an expression does. Operands go from left to right, and an operand that does not count is not evaluated.
unfoldable pub means : Setting → Expr → Meant
means setting = fold-Expr (Ty → Meant) Meant (means_by setting) typed_by

-- what is of a kind does, where it has a type
unfoldable pub kind_means : Setting → ExprKind → Ty → Meant
kind_means setting = fold-ExprKind (Ty → Meant) Meant (means_by setting) typed_by

-- its value
abbrev pub evaluating : Setting → Expr → Run Value
evaluating setting e = (means setting e).value
